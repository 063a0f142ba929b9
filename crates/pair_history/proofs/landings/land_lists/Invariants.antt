-- What remains to be done for the lists from this one on.
use Rattle.std.proofs.Common.{◌≡◌, ◌+◌, ◌-◌, ◌≤◌, take, drop, map}
use Rattle.output_gate.specs.Landings.{ports_after, landed_count, dropped_count, told_after}
use Rattle.pair_history.specs.LandedEntries.{all_frames}
use Rattle.pair_history.proofs.landings.land_lists.Given as goal

abbrev pub invariant-loop-frames : goal.invariant-loop-frames
invariant-loop-frames g l = record {
  ports : ports_after l.ports l.number (take (l.end - l.number) (all_frames (drop l.frames-index (map (λ v. v.items) l.lists))))
      ≡ ports_after l.initial.ports l.first (take (l.end - l.first) (all_frames (map (λ v. v.items) l.lists)));
  known : told_after g.L.Listener.told (g.L.Listener.known l.listener) l.ports l.number
      (take (l.end - l.number) (all_frames (drop l.frames-index (map (λ v. v.items) l.lists))))
      ≡ told_after g.L.Listener.told (g.L.Listener.known l.initial.listener) l.initial.ports l.first
      (take (l.end - l.first) (all_frames (map (λ v. v.items) l.lists)));
  room : landed_count l.ports l.number (take (l.end - l.number) (all_frames (drop l.frames-index (map (λ v. v.items) l.lists))))
      + dropped_count l.ports l.number (take (l.end - l.number) (all_frames (drop l.frames-index (map (λ v. v.items) l.lists))))
      ≤ g.L.Listener.room l.listener;
}
