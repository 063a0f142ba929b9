-- What sealed texts make of guests, and which frames they carry. What a text makes of a guest is a parameter here: the checkpoint format
-- stands elsewhere.
use Rattle.std.specs.Prelude.{◌≡◌, ℕ, zero, suc, List, [], ◌∷◌, ◌++◌}
use Rattle.guest_rules.specs.Guest.{Guest}
use Rattle.pair_history.specs.Entries.{Frame, Entry}
use Rattle.pair_history.specs.HistoryState.{HistoryState, at, sent_along}
use Rattle.growing_history.specs.Steps.{What, Sealed, Step}
use Rattle.growing_history.specs.LogState.{LogState, Epoch, sealed_state, after_step, start_of}

-- a relation between a text, the frames that it carries, the guest that it is read over, and the guest that it makes of that
abbrev pub Reading : Type 1
Reading = List ℕ → List Frame → Guest → Guest → Type 0

-- the text of the checkpoint of that number carries the frames and makes the one guest of the other; a full one makes it of any guest
abbrev pub Makes : Reading → ℕ → List ℕ → List Frame → Guest → Guest → Type 0
Makes reads zero text sent from to = (base : Guest) → reads text sent base to
Makes reads (suc n) text sent from to = reads text sent from to

-- the frames that the guest sends along the epoch of the checkpoint of that number; a full one stands for no epoch
abbrev pub epoch_sent : LogState → ℕ → List Entry → List Frame
epoch_sent s zero epoch = []
epoch_sent s (suc n) epoch = sent_along (sealed_state s) epoch

-- A step that seals, unless a commit is marked: its text makes the guest of the sealed state after it, of the one before it, and carries
-- what the guest sends along its epoch.
abbrev pub IsMade : Reading → LogState → What → Type 0
IsMade reads s (Sealed g n epoch text) =
    s.marked ≡ 0
    → Makes reads n text (epoch_sent s n epoch) (sealed_state s).guest (sealed_state (after_step s (Sealed g n epoch text))).guest
IsMade reads s other = Unit {0}

abbrev pub AreMadeFrom : Reading → LogState → List Step → Type 0
AreMadeFrom reads s [] = Unit {0}
AreMadeFrom reads s (x ∷ xs) = IsMade reads s x.what × AreMadeFrom reads (after_step s x.what) xs

-- each step of the list, in its turn
unfoldable pub AreMade : Reading → HistoryState → List Step → Type 0
AreMade reads h xs = AreMadeFrom reads (start_of h) xs

-- Each sealed epoch's text makes the guest of the epoch's end of the guest at its start, and carries what the guest sends along it. The
-- epochs come after those entries of the history's state.
abbrev pub MakeInTurn : Reading → HistoryState → List Entry → List Epoch → Type 0
MakeInTurn reads h before [] = Unit {0}
MakeInTurn reads h before (e ∷ es) =
    Makes reads e.number e.text (sent_along (at h before) e.entries) (at h before).guest (at h (before ++ e.entries)).guest
    × MakeInTurn reads h (before ++ e.entries) es
