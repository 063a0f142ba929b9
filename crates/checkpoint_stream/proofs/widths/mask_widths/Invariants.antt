use Rattle.std.proofs.Common.{All, take}
use Rattle.checkpoint_stream.proofs.RecordsRead.{FitsMask}
use Rattle.checkpoint_stream.proofs.widths.mask_widths.Given as goal

abbrev pub invariant-loop-page : goal.invariant-loop-page
invariant-loop-page l = All FitsMask (take l.page-index l.pages)
