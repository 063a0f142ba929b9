-- what comes of the lines that are left is what comes of the file
use Rattle.std.proofs.Common.{◌≤◌, ◌+◌, length}
use Rattle.pair_run.specs.internal.Reading.{stage_of, lines_left, most_lines}
use Rattle.pair_run.proofs.ActionLemmas.{texts}
use Rattle.pair_run.proofs.ReadingLemmas.{HasRead, IsWithin}
use Rattle.pair_run.proofs.reading.read_run.Given as goal

abbrev pub invariant-loop-left : goal.invariant-loop-left
invariant-loop-left l =
    (l.count + most_lines (texts l.left) ≤ length l.source + 1)
    × HasRead l.source (stage_of l.stage) l.count (lines_left (texts l.left))
    × IsWithin (stage_of l.stage)

abbrev pub decreases-loop-left : goal.decreases-loop-left
decreases-loop-left l = most_lines (texts l.left)
