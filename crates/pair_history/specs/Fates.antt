-- What becomes of the frames that clients deliver.
use Rattle.std.specs.Prelude.{ℕ, List, [], ◌∷◌, map}
use Rattle.pair_history.specs.Entries.{Entry, Delivered}
use Rattle.pair_history.specs.HistoryState.{Waiting}

-- the numbers of the frames that clients delivered, in order
abbrev pub delivered_numbers : List Entry → List ℕ
delivered_numbers [] = []
delivered_numbers (Delivered c f n ∷ es) = n ∷ delivered_numbers es
delivered_numbers (other ∷ es) = delivered_numbers es

-- the numbers of what waits
abbrev pub waiting_numbers : List Waiting → List ℕ
waiting_numbers ws = map (λ x. x.number) ws
