-- what was written so far is the front of the bytes; each turn writes some, or is one more try
use Rattle.std.{proofs.Common.{◌≤◌, ◌+◌, ◌-◌, length, take}, specs.Io.KnownBytes.Appends}
use Rattle.script_player.proofs.output.put.Given as goal

abbrev pub invariant-loop-written : goal.invariant-loop-written
invariant-loop-written g l =
    (l.written ≤ length l.bytes) × (l.tries ≤ 1000)
    × Appends (g.W.Write.contents l.initial.out) (g.W.Write.contents l.out) (take l.written l.bytes)

abbrev pub decreases-loop-written : goal.decreases-loop-written
decreases-loop-written g l = (length l.bytes - l.written) + (1000 - l.tries)
