use Rattle.std.proofs.{Common.arith, lemmas.List.Elements.All-more}
use Rattle.checkpoint_stream.proofs.{RecordsRead.IsSectorWide, Spelling.all-seen}
use Rattle.checkpoint_stream.proofs.widths.sector_widths.Goals as goal

pub loop-sector-preserved : goal.loop-sector-preserved
loop-sector-preserved c =
    All-more IsSectorWide c.args.sectors.now c.loop-sector.sector-index _ c.loop-sector-test.true c.loop-sector.invariant c.sector_width.ensures

pub returns : goal.returns
returns c = all-seen IsSectorWide c.args.sectors.now c.loop-sector.sector-index (omega arith) c.loop-sector.invariant
