use Rattle.std.proofs.Common.{◌≡◌, ◌++◌, All, drop, take}
use Rattle.checkpoint_stream.{specs.Text.{joined, sector_units}, proofs.RecordsRead.IsSectorWide}
use Rattle.checkpoint_stream.proofs.encoding.put_sectors.Given as goal

abbrev pub invariant-loop-sector : goal.invariant-loop-sector
invariant-loop-sector l = record {
  put : l.out.items ++ joined (sector_units (drop l.sector-index l.sectors)) ≡ l.initial.out.items ++ joined (sector_units l.sectors);
  width : All IsSectorWide (take l.sector-index l.sectors);
}
