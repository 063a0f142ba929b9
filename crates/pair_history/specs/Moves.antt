-- The guest's own entries, each with the frame that arrives: what an epoch is made of.
use Rattle.std.specs.Prelude.{◌≡◌, ℕ, List, [], ◌∷◌, ◌++◌, map, Some}
use Rattle.guest_rules.specs.Guest.{Guest}
use Rattle.guest_rules.specs.Step.{next, sent, arrived}
use Rattle.pair_history.specs.Entries.{Frame, Entry, Ran, Arrive}
use Rattle.pair_history.specs.HistoryState.{Waiting, frame_numbered, without_number, IsFirst}

-- What an epoch keeps: the guest's steps, and the frames that arrived at it.
pub data Move : Type 0 where
  Steps : Move
  Arrives : ℕ → Frame → Move

abbrev pub entry_of : Move → Entry
entry_of Steps = Ran
entry_of (Arrives n f) = Arrive n

abbrev pub entries_of : List Move → List Entry
entries_of ms = map entry_of ms

-- the guest behind these moves, and the frames that it sends along them
abbrev pub guest_moved : Guest → Move → Guest
guest_moved g Steps = next g
guest_moved g (Arrives n f) = arrived g f

abbrev pub frames_by : Guest → Move → List Frame
frames_by g Steps = sent g
frames_by g (Arrives n f) = []

abbrev pub guest_along : Guest → List Move → Guest
guest_along g [] = g
guest_along g (m ∷ ms) = guest_along (guest_moved g m) ms

abbrev pub frames_along : Guest → List Move → List Frame
frames_along g [] = []
frames_along g (m ∷ ms) = frames_by g m ++ frames_along (guest_moved g m) ms

-- what still waits behind these moves
abbrev pub left_by : List Waiting → Move → List Waiting
left_by ws Steps = ws
left_by ws (Arrives n f) = without_number n ws

abbrev pub left : List Waiting → List Move → List Waiting
left ws [] = ws
left ws (m ∷ ms) = left (left_by ws m) ms

-- the frame that arrives waits under its number, as the first of its client
abbrev pub CanMove : List Waiting → Move → Type 0
CanMove ws Steps = Unit {0}
CanMove ws (Arrives n f) = IsFirst n ws × (frame_numbered n ws ≡ Some f)

abbrev pub AllCan : List Waiting → List Move → Type 0
AllCan ws [] = Unit {0}
AllCan ws (m ∷ ms) = CanMove ws m × AllCan (left_by ws m) ms
