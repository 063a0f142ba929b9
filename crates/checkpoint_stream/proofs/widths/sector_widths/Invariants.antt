use Rattle.std.proofs.Common.{All, take}
use Rattle.checkpoint_stream.proofs.RecordsRead.{IsSectorWide}
use Rattle.checkpoint_stream.proofs.widths.sector_widths.Given as goal

abbrev pub invariant-loop-sector : goal.invariant-loop-sector
invariant-loop-sector l = All IsSectorWide (take l.sector-index l.sectors)
