use Rattle.std.proofs.Common.{◌≡◌, ◌+◌, length, drop}
use Rattle.pair_history.specs.internal.Arrivals.{numbers_in}
use Rattle.pair_history.proofs.discards.count_arrivals.Given as goal

abbrev pub invariant-loop-epoch : goal.invariant-loop-epoch
invariant-loop-epoch l = record { counted : l.count + length (numbers_in (drop l.epoch-index l.epochs)) ≡ length (numbers_in l.epochs) }
