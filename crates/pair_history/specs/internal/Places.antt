-- How many places of the stored history epochs take.
use Rattle.std.specs.Prelude.{ℕ, ◌+◌, ◌*◌, List, [], ◌∷◌, length}
use Rattle.pair_history.specs.declared.epochs.RunningEpoch.{RunningEpoch}

-- at most two for each arrival, one for its steps and one for itself, and one for the steps behind the last
abbrev pub places_of : List RunningEpoch → ℕ
places_of [] = 0
places_of (e ∷ es) = 2 * length e.arrivals.items + 1 + places_of es
