use Rattle.std.proofs.{Common.arith, lemmas.List.Elements.All-more}
use Rattle.checkpoint_stream.proofs.{RecordsRead.IsSectorWide, Spelling.{advance, finish, sector_units-drop, sector_units-done, all-seen}}
use Rattle.checkpoint_stream.proofs.encoding.put_sectors.Goals as goal

pub loop-sector-preserved : goal.loop-sector-preserved
loop-sector-preserved c = record {
  put = advance c.loop-sector.out.items _ c.put_sector.new.out.items _ _ _ c.loop-sector.invariant.put
      (sector_units-drop c.args.sectors.now c.loop-sector.sector-index _ (omega arith)) c.in_ok-put_sector.ensures.put;
  width = All-more IsSectorWide c.args.sectors.now c.loop-sector.sector-index _ (omega arith) c.loop-sector.invariant.width
      c.in_ok-put_sector.ensures.width;
}

pub returns : goal.returns
returns c = record {
  put = finish c.loop-sector.out.items _ _ c.loop-sector.invariant.put
      (sector_units-done c.args.sectors.now c.loop-sector.sector-index (omega arith));
  width = all-seen IsSectorWide c.args.sectors.now c.loop-sector.sector-index (omega arith) c.loop-sector.invariant.width;
}
