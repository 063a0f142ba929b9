use Rattle.std.proofs.Common.{◌≡◌, ◌+◌, ◌<◌, ◌^◌, drop}
use Rattle.pair_history.specs.internal.Places.{places_of}
use Rattle.pair_history.proofs.epochs.places_with.Given as goal

abbrev pub invariant-loop-epoch : goal.invariant-loop-epoch
invariant-loop-epoch l = l.places < 2 ^ 63 → l.places + places_of (drop l.epoch-index l.epochs) ≡ places_of l.epochs + l.more
