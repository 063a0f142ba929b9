-- the lines so far were played, and what they mean is printed
use Rattle.std.proofs.Common.{◌≤◌, ◌+◌, length}
use Rattle.script_player.{specs.internal.Playing.{stage_of, lines_left, most_lines}, proofs.{LineLemmas.texts, ScriptLemmas.ArePlayed}}
use Rattle.script_player.proofs.sim.play.Given as goal

abbrev pub invariant-loop-left : goal.invariant-loop-left
invariant-loop-left g l =
    (l.number + most_lines (texts l.left) ≤ length l.source + 1)
    × ArePlayed g.O.Sink.no_memory l.source (g.O.Sink.written l.initial.out) (g.O.Sink.written l.out) (lines_left (texts l.left)) (stage_of l.player.world)
    (l.number + 1)

abbrev pub decreases-loop-left : goal.decreases-loop-left
decreases-loop-left g l = most_lines (texts l.left)
