-- What remains to be counted from this list on.
use Rattle.std.proofs.Common.{◌≡◌, ◌+◌, ◌-◌, ◌≤◌, ◌<◌, take, drop, map}
use Rattle.frame_ports.specs.Limits.{number_limit}
use Rattle.pair_history.specs.internal.NewFrames.{new_after}
use Rattle.pair_history.specs.LandedEntries.{all_frames}
use Rattle.pair_history.proofs.landings.count_lists.Given as goal

abbrev pub invariant-loop-frames : goal.invariant-loop-frames
invariant-loop-frames l = record {
  limit : l.count ≤ number_limit;
  most : l.count + new_after l.ports l.number (take (l.end - l.number) (all_frames (drop l.frames-index (map (λ v. v.items) l.lists))))
      ≤ new_after l.ports l.first (take (l.end - l.first) (all_frames (map (λ v. v.items) l.lists)));
  exact : l.count < number_limit
      → l.count + new_after l.ports l.number (take (l.end - l.number) (all_frames (drop l.frames-index (map (λ v. v.items) l.lists))))
      ≡ new_after l.ports l.first (take (l.end - l.first) (all_frames (map (λ v. v.items) l.lists)));
}
