-- What remains to be done for the frames from this one on.
use Rattle.std.proofs.Common.{◌≡◌, ◌+◌, ◌≤◌, take, drop}
use Rattle.output_gate.specs.Landings.{ports_after, landed_count, dropped_count, told_after}
use Rattle.pair_history.proofs.landings.land_frames.Given as goal

abbrev pub invariant-loop-at : goal.invariant-loop-at
invariant-loop-at g l = record {
  number : l.number ≡ l.first + l.at;
  ports : ports_after l.ports l.number (drop l.at (take l.count l.frames.items))
      ≡ ports_after l.initial.ports l.first (take l.count l.frames.items);
  known : told_after g.L.Listener.told (g.L.Listener.known l.listener) l.ports l.number (drop l.at (take l.count l.frames.items))
      ≡ told_after g.L.Listener.told (g.L.Listener.known l.initial.listener) l.initial.ports l.first (take l.count l.frames.items);
  room : g.L.Listener.room l.initial.listener
      + (landed_count l.ports l.number (drop l.at (take l.count l.frames.items))
      + dropped_count l.ports l.number (drop l.at (take l.count l.frames.items)))
      ≤ g.L.Listener.room l.listener
      + (landed_count l.initial.ports l.first (take l.count l.frames.items)
      + dropped_count l.initial.ports l.first (take l.count l.frames.items));
}
