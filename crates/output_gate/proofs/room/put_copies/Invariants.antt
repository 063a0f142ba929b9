-- As many frames as iterations so far stand behind those that were there, and the room hasn't shrunk.
use Rattle.std.proofs.Common.{◌≡◌, ◌++◌, ◌≤◌, take, vec_capacity}
use Rattle.output_gate.proofs.room.put_copies.Given as goal

abbrev pub invariant-loop-frame : goal.invariant-loop-frame
invariant-loop-frame l = (l.held.items ≡ l.fn.held.items ++ take l.frame-index l.frames) × (vec_capacity l.fn.held ≤ vec_capacity l.held)
