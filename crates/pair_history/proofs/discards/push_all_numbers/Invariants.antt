use Rattle.std.proofs.Common.{◌≡◌, ◌++◌, drop}
use Rattle.pair_history.specs.internal.Arrivals.{numbers_in}
use Rattle.pair_history.proofs.discards.push_all_numbers.Given as goal

abbrev pub invariant-loop-epoch : goal.invariant-loop-epoch
invariant-loop-epoch l = record {
  so_far : l.numbers.items ++ numbers_in (drop l.epoch-index l.epochs) ≡ l.initial.numbers.items ++ numbers_in l.epochs;
}
