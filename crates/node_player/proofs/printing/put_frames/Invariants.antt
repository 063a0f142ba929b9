-- the lines of the frames so far were written
use Rattle.std.proofs.Common.{take}
use Rattle.node_player.specs.{Printed.frame_lines, internal.Puts.HasPut}
use Rattle.node_player.proofs.printing.put_frames.Given as goal

abbrev pub invariant-loop-frame : goal.invariant-loop-frame
invariant-loop-frame g l = HasPut (g.O.Sink.written l.initial.out) (g.O.Sink.written l.out) (frame_lines (take l.frame-index l.frames))
