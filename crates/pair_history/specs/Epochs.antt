-- An epoch of a guest: what runs up to so many arrivals, the first first, with so many steps after them; and what is behind it.
use Rattle.std.specs.Prelude.{ℕ, zero, suc, ◌++◌, Bool, true, false, if◌then◌else◌, List, [], ◌∷◌, replicate}
use Rattle.pair_history.specs.Entries.{Entry, Ran, Arrive}

abbrev pub is_arrival : Entry → Bool
is_arrival (Arrive n) = true
is_arrival other = false

-- how many arrivals are still to come once this entry has
abbrev pub to_come : ℕ → Entry → ℕ
to_come n e = if is_arrival e then n else suc n

abbrev pub up_to : ℕ → List Entry → List Entry
up_to zero es = []
up_to (suc n) [] = []
up_to (suc n) (e ∷ es) = e ∷ up_to (to_come n e) es

abbrev pub behind : ℕ → List Entry → List Entry
behind zero es = es
behind (suc n) [] = []
behind (suc n) (e ∷ es) = behind (to_come n e) es

-- so many arrivals, and so many steps after them
abbrev pub guest_epoch : ℕ → ℕ → List Entry → List Entry
guest_epoch arrivals steps es = up_to arrivals es ++ replicate steps Ran
