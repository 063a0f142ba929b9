-- The clients so far sit; the rest is still to come.
use Rattle.std.proofs.Common.{◌≡◌, ◌++◌, map, Some, length}
use Rattle.std.specs.Vec.Iter.{into_iter_items, into_iter_len}
use Rattle.pair_threads.proofs.scripts.seats_of.Given as goal

abbrev pub invariant-loop-client : goal.invariant-loop-client
invariant-loop-client g l = record {
  seats : l.seats.items ++ map Some (into_iter_items l.client-iterator) ≡ map Some (into_iter_items l.initial.client-iterator);
  count : into_iter_len l.client-iterator ≡ length (into_iter_items l.client-iterator);
}
