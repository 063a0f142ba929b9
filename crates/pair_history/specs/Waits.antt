-- What waits for the guest, along entries and without frames of some numbers.
use Rattle.std.specs.Prelude.{◌≡◌, ℕ, ◌+◌, List, [], ◌∷◌, ◌++◌, Some}
use Rattle.pair_history.specs.Entries.{Frame, Entry, Arrive, Delivered, DropIn}
use Rattle.pair_history.specs.HistoryState.{Waiting, frame_numbered, without_number}

-- a frame of that number waits
abbrev pub Waits : ℕ → List Waiting → Type 0
Waits n ws = (f : Frame) × (frame_numbered n ws ≡ Some f)

-- what waits without frames of these numbers
abbrev pub without_numbers : List ℕ → List Waiting → List Waiting
without_numbers [] ws = ws
without_numbers (n ∷ ns) ws = without_numbers ns (without_number n ws)

-- a frame of each of these numbers waits, once those before it have left
abbrev pub AllWait : List ℕ → List Waiting → Type 0
AllWait [] ws = Unit {0}
AllWait (n ∷ ns) ws = Waits n ws × AllWait ns (without_number n ws)

-- what waits behind entries: only deliveries, arrivals and drops count
abbrev pub waits_after : List Waiting → Entry → List Waiting
waits_after ws (Arrive n) = without_number n ws
waits_after ws (Delivered c f n) = ws ++ record { number = n; client = c; frame = f } ∷ []
waits_after ws (DropIn n) = without_number n ws
waits_after ws other = ws

abbrev pub waits_along : List Waiting → List Entry → List Waiting
waits_along ws [] = ws
waits_along ws (e ∷ es) = waits_along (waits_after ws e) es

-- the next number behind entries: only deliveries count
abbrev pub number_after : ℕ → Entry → ℕ
number_after n (Delivered c f m) = n + 1
number_after n other = n

abbrev pub number_along : ℕ → List Entry → ℕ
number_along n [] = n
number_along n (e ∷ es) = number_along (number_after n e) es

-- entries that leave alone what waits: each is a step, a landing, a take, a refusal or a drop out of a box
abbrev pub IsQuiet : Entry → Type 0
IsQuiet (Arrive n) = ⊥
IsQuiet (Delivered c f n) = ⊥
IsQuiet (DropIn n) = ⊥
IsQuiet other = Unit {0}

abbrev pub AreQuiet : List Entry → Type 0
AreQuiet [] = Unit {0}
AreQuiet (e ∷ es) = IsQuiet e × AreQuiet es
