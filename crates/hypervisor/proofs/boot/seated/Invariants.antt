-- The clients so far have the seats that went by; the rest is still to come.
use Rattle.std.proofs.Common.{◌≡◌, ◌++◌, length}
use Rattle.std.specs.Vec.Iter.{into_iter_items, into_iter_len}
use Rattle.hypervisor.proofs.boot.seated.Given as goal

abbrev pub invariant-loop-seat : goal.invariant-loop-seat
invariant-loop-seat g l = record {
  clients : l.clients.items ++ into_iter_items l.seat-iterator ≡ into_iter_items l.initial.seat-iterator;
  count : into_iter_len l.seat-iterator ≡ length (into_iter_items l.seat-iterator);
}
