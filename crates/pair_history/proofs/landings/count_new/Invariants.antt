use Rattle.std.proofs.Common.{◌≡◌, ◌+◌, ◌≤◌, drop}
use Rattle.pair_history.specs.internal.NewFrames.{new_for}
use Rattle.pair_history.proofs.landings.count_new.Given as goal

abbrev pub invariant-loop-client : goal.invariant-loop-client
invariant-loop-client l = record {
  few : l.count ≤ l.client-index;
  counted : l.count + new_for l.ports (drop l.client-index l.clients) l.number ≡ new_for l.ports l.clients l.number;
}
