use Rattle.std.proofs.Common.{◌≡◌, ◌++◌, drop}
use Rattle.pair_history.specs.internal.Arrivals.{numbers_of}
use Rattle.pair_history.proofs.discards.push_numbers.Given as goal

abbrev pub invariant-loop-arrival : goal.invariant-loop-arrival
invariant-loop-arrival l = record {
  so_far : l.numbers.items ++ numbers_of (drop l.arrival-index l.arrivals) ≡ l.initial.numbers.items ++ numbers_of l.arrivals;
}
