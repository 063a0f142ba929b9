-- A page that wasn't written is the same.
use Rattle.std.proofs.Common.{◌∙◌, arith}
use Rattle.epoch_snapshot.specs.laws.Pages.{changed_pages-same}
use Rattle.epoch_cuts.proofs.memory.next_written.Goals as goal

pub end_of_unwritten-page-requires-clause-here : goal.end_of_unwritten-page-requires-clause-here
end_of_unwritten-page-requires-clause-here c =
    changed_pages-same c.args.machine.now.settled c.args.machine.now.guest.ram c.loop-page.page (c.dirty.ensures.same c.if-not-dirty.true)

pub loop-page-preserved : goal.loop-page-preserved
loop-page-preserved c = record {
  first = omega (arith, c.loop-page.invariant.first, c.end_of_unwritten-page.ensures.first);
  last = c.end_of_unwritten-page.ensures.last;
  same = c.end_of_unwritten-page.ensures.same ∙ c.loop-page.invariant.same;
}
