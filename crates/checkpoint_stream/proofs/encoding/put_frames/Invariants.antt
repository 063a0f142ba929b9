use Rattle.std.proofs.Common.{◌≡◌, ◌++◌, drop}
use Rattle.checkpoint_stream.specs.Text.{joined, frame_units}
use Rattle.checkpoint_stream.proofs.encoding.put_frames.Given as goal

abbrev pub invariant-loop-at : goal.invariant-loop-at
invariant-loop-at l =
    l.out.items ++ joined (frame_units (drop l.at l.frames.items)) ≡ l.initial.out.items ++ joined (frame_units l.frames.items)
