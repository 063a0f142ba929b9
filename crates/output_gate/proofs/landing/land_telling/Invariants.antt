-- What remains to be done for the frames from this one on.
use Rattle.std.proofs.Common.{◌≡◌, ◌+◌, ◌*◌, ◌≤◌, drop}
use Rattle.output_gate.specs.Landings.{ports_after, landed_count, dropped_count, told_after}
use Rattle.output_gate.proofs.landing.land_telling.Given as goal

abbrev pub invariant-loop-frame : goal.invariant-loop-frame
invariant-loop-frame g l = record {
  number : l.number ≡ l.first + l.frame-index;
  ports : ports_after l.ports l.number (drop l.frame-index l.frames) ≡ ports_after l.initial.ports l.first l.frames;
  landed : l.total.landed + landed_count l.ports l.number (drop l.frame-index l.frames) ≡ landed_count l.initial.ports l.first l.frames;
  dropped : l.total.dropped + dropped_count l.ports l.number (drop l.frame-index l.frames)
      ≡ dropped_count l.initial.ports l.first l.frames;
  bound : l.total.landed + l.total.dropped ≤ 16 * l.frame-index;
  known : told_after g.L.Listener.told (g.L.Listener.known l.listener) l.ports l.number (drop l.frame-index l.frames)
      ≡ told_after g.L.Listener.told (g.L.Listener.known l.initial.listener) l.initial.ports l.first l.frames;
  room : g.L.Listener.room l.initial.listener ≤ g.L.Listener.room l.listener + (l.total.landed + l.total.dropped);
}
