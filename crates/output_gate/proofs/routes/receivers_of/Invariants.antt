-- Those found so far, and then those from this client on.
use Rattle.std.proofs.Common.{◌≡◌, ◌+◌, ◌≤◌, ◌++◌, length}
use Rattle.frame_ports.specs.Addresses.{clients_of}
use Rattle.output_gate.proofs.Receivers.{from_on}
use Rattle.output_gate.proofs.routes.receivers_of.Given as goal

abbrev pub invariant-loop-client : goal.invariant-loop-client
invariant-loop-client l = record {
  first : 1 ≤ l.client;
  few : length l.found.items + 1 ≤ l.client;
  most : l.client ≤ 17;
  all : l.found.items ++ from_on l.clients l.client l.frame ≡ clients_of l.clients l.frame;
}
