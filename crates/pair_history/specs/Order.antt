-- Which entries can change places: what clients and their lines do can come before what the guest does.
use Rattle.std.specs.Prelude.{◌≡◌, ◌≢◌, ℕ, ◌+◌, ◌<◌, List, [], ◌∷◌, length, Some}
use Rattle.frame_ports.specs.Lands.{list_of}
use Rattle.pair_history.specs.Entries.{Frame, Entry, Ran, Arrive, Delivered, Refused, DropIn, Land, DropOut, Took}
use Rattle.pair_history.specs.HistoryState.{HistoryState, frame_numbered, out_of}

-- what the guest does: it makes a step, or a frame arrives at it
abbrev pub IsGuests : Entry → Type 0
IsGuests Ran = Unit {0}
IsGuests (Arrive n) = Unit {0}
IsGuests other = ⊥

abbrev pub AreGuests : List Entry → Type 0
AreGuests [] = Unit {0}
AreGuests (e ∷ es) = IsGuests e × AreGuests es

-- none of these entries takes in the frame of that number
abbrev pub NoneTakes : ℕ → List Entry → Type 0
NoneTakes n [] = Unit {0}
NoneTakes n (Arrive m ∷ es) = (m ≢ n) × NoneTakes n es
NoneTakes n (other ∷ es) = NoneTakes n es

-- What clients and their lines do, where it doesn't depend on what the guest does in these entries: what is to land, or to be dropped,
-- is there before them, and none of them takes in a delivered frame that is to be dropped.
abbrev pub IsReady : HistoryState → List Entry → Entry → Type 0
IsReady s es (Delivered c f n) = Unit {0}
IsReady s es (Refused c f) = Unit {0}
IsReady s es (DropIn n) = (f : Frame) × (frame_numbered n s.waiting ≡ Some f) × NoneTakes n es
IsReady s es (Land c) = 0 < length (out_of c s.out)
IsReady s es (DropOut c place) = place < length (list_of s.boxes c) + length (out_of c s.out)
IsReady s es (Took c answer) = Unit {0}
IsReady s es other = ⊥
