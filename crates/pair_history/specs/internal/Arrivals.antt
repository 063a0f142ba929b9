-- How an epoch is stored: its arrivals, each with the steps since the one before, and the steps behind the last.
use Rattle.std.specs.Prelude.{ℕ, List, [], ◌∷◌, ◌++◌, replicate, map, flat_map}
use Rattle.pair_history.specs.declared.epochs.Arrival.{Arrival}
use Rattle.pair_history.specs.declared.epochs.RunningEpoch.{RunningEpoch}
use Rattle.pair_history.specs.Entries.{Entry, Ran, Arrive}

abbrev pub steps_of : ℕ → List Entry
steps_of count = replicate count Ran

abbrev pub arrival_of : Arrival → List Entry
arrival_of a = steps_of a.steps ++ Arrive a.number ∷ []

abbrev pub arrivals_of : List Arrival → List Entry
arrivals_of [] = []
arrivals_of (a ∷ later) = arrival_of a ++ arrivals_of later

-- the entries of the whole epoch
abbrev pub epoch_entries : List Arrival → ℕ → List Entry
epoch_entries arrivals steps = arrivals_of arrivals ++ steps_of steps

-- the numbers of the frames that arrived, and of those that did in these epochs
abbrev pub numbers_of : List Arrival → List ℕ
numbers_of arrivals = map (λ (a : Arrival). a.number) arrivals

abbrev pub numbers_in : List RunningEpoch → List ℕ
numbers_in epochs = flat_map (λ (e : RunningEpoch). numbers_of e.arrivals.items) epochs
