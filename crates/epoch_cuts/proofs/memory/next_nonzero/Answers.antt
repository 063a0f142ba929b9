-- A page that is all zero is passed over.
use Rattle.std.proofs.Common.{◌∙◌, arith}
use Rattle.epoch_cuts.proofs.ZeroLemmas.{zero_page_skipped}
use Rattle.epoch_cuts.proofs.memory.next_nonzero.Goals as goal

pub loop-page-preserved : goal.loop-page-preserved
loop-page-preserved c = record {
  first = omega (arith, c.loop-page.invariant.first);
  last = omega (arith, c.loop-page.invariant.last);
  same = zero_page_skipped c.args.machine.now.guest.ram c.loop-page.page (omega arith) (c.is_zero.ensures.0 c.if-is_zero.true)
      ∙ c.loop-page.invariant.same;
}
