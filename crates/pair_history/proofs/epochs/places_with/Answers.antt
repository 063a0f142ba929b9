use Rattle.std.proofs.Common.{arith, ◌≡◌, ◌+◌, ◌-◌, ◌^◌, ◌<◌, ℕ, min}
use Rattle.std.proofs.lemmas.List.{at_drop_more}
use Rattle.pair_history.specs.internal.Places.{places_of}
use Rattle.pair_history.proofs.epochs.places_with.Goals as goal

-- a sum that a list has room for is none that was cut
whole : (places more sum : ℕ) → sum ≡ min (places + more) (2 ^ 64 - 1) → sum < 2 ^ 63 → sum ≡ places + more
whole places more sum is small = omega (arith, is, small)

pub loop-epoch-preserved : goal.loop-epoch-preserved
loop-epoch-preserved c = λ small.
    let sum = whole _ _ _ c.saturating_add-places.ensures small in
    let before = c.loop-epoch.invariant (omega (arith, sum, small)) in
    let parted = at_drop_more places_of c.args.epochs.now c.loop-epoch.epoch-index c.epoch-item.result (omega arith) in
    grind arith
