-- One record more.
use Rattle.std.proofs.Common.{arith}
use Rattle.std.proofs.lemmas.List.Sums.{sum_by_more}
use Rattle.epoch_snapshot.specs.declared.changes.PageChange.{PageChange}
use Rattle.full_text.specs.Full.{record_size}
use Rattle.full_text.proofs.text.size_of_records.Goals as goal

none : PageChange
none = record { page = 0; mask = 0 }

pub loop-page-preserved : goal.loop-page-preserved
unfolding none
loop-page-preserved c = record {
  value = omega (
    arith,
    c.loop-page.invariant.value,
    c.size_of_record-size.ensures.value,
    sum_by_more record_size c.args.pages.now c.loop-page.page-index none c.loop-page-test.true,
  );
  most = omega (arith, c.loop-page.invariant.most, c.size_of_record-size.ensures.most);
}
