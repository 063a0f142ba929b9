-- What remains to be counted from this frame on.
use Rattle.std.proofs.Common.{◌≡◌, ◌+◌, ◌≤◌, ◌<◌, take, drop}
use Rattle.frame_ports.specs.Limits.{number_limit}
use Rattle.pair_history.specs.internal.NewFrames.{new_after}
use Rattle.pair_history.proofs.landings.count_new_frames.Given as goal

abbrev pub invariant-loop-at : goal.invariant-loop-at
invariant-loop-at l = record {
  number : l.number ≡ l.first + l.at;
  limit : l.count ≤ number_limit;
  most : l.count + new_after l.ports l.number (drop l.at (take l.known l.frames.items))
      ≤ new_after l.ports l.first (take l.known l.frames.items);
  exact : l.count < number_limit
      → l.count + new_after l.ports l.number (drop l.at (take l.known l.frames.items))
      ≡ new_after l.ports l.first (take l.known l.frames.items);
}
