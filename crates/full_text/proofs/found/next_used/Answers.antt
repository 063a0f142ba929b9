-- A page that was all zero is passed over.
use Rattle.std.proofs.Common.{◌∙◌, arith}
use Rattle.full_text.specs.Full.{page_at}
use Rattle.full_text.proofs.SearchLemmas.{used-skip}
use Rattle.full_text.proofs.found.next_used.Goals as goal

pub loop-page-preserved : goal.loop-page-preserved
loop-page-preserved c = record {
  first = omega (arith, c.loop-page.invariant.first);
  last = omega (arith, c.loop-page.invariant.last);
  same = used-skip (page_at c.args.machine.now.settled c.args.kept.now) c.loop-page.page (c.was_zero.ensures c.if-was_zero.true)
      ∙ c.loop-page.invariant.same;
}
