use Rattle.std.proofs.{Common.arith, lemmas.List.Elements.All-more}
use Rattle.checkpoint_stream.proofs.{RecordsRead.FitsMask, Spelling.all-seen}
use Rattle.checkpoint_stream.proofs.widths.mask_widths.Goals as goal

pub loop-page-preserved : goal.loop-page-preserved
loop-page-preserved c =
    All-more FitsMask c.args.pages.now c.loop-page.page-index _ c.loop-page-test.true c.loop-page.invariant c.mask_width.ensures

pub returns : goal.returns
returns c = all-seen FitsMask c.args.pages.now c.loop-page.page-index (omega arith) c.loop-page.invariant
