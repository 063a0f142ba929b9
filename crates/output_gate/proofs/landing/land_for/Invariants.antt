-- What remains to be done for the clients from this one on.
use Rattle.std.proofs.Common.{◌≡◌, ◌+◌, ◌≤◌, length, drop}
use Rattle.output_gate.specs.Landings.{landed_for, landed_of, dropped_of, told_of}
use Rattle.output_gate.proofs.landing.land_for.Given as goal

abbrev pub invariant-loop-client : goal.invariant-loop-client
invariant-loop-client g l = record {
  clients : length l.ports.boxes ≡ length l.initial.ports.boxes;
  ports : landed_for l.ports (drop l.client-index l.clients) l.number (record { items = l.frame })
      ≡ landed_for l.initial.ports l.clients l.number (record { items = l.frame });
  landed : l.total.landed + landed_of l.ports (drop l.client-index l.clients) l.number (record { items = l.frame })
      ≡ landed_of l.initial.ports l.clients l.number (record { items = l.frame });
  dropped : l.total.dropped + dropped_of l.ports (drop l.client-index l.clients) l.number (record { items = l.frame })
      ≡ dropped_of l.initial.ports l.clients l.number (record { items = l.frame });
  bound : l.total.landed + l.total.dropped ≤ l.client-index;
  known : told_of g.L.Listener.told (g.L.Listener.known l.listener) l.ports (drop l.client-index l.clients) l.number (record { items = l.frame })
      ≡ told_of g.L.Listener.told (g.L.Listener.known l.initial.listener) l.initial.ports l.clients l.number (record { items = l.frame });
  room : g.L.Listener.room l.initial.listener ≤ g.L.Listener.room l.listener + (l.total.landed + l.total.dropped);
}
