-- What becomes of frames that are let go: each lands in its client's box, or is dropped at a full one.
use Rattle.std.specs.Prelude.{◌≡◌, ℕ, ◌<◌, ◌≤◌, ◌⊎◌, if◌then◌else◌, List, [], ◌∷◌, length}
use Rattle.frame_ports.specs.Lands.{list_of, has_room, landed_at}
use Rattle.frame_ports.specs.Limits.{box_frames}
use Rattle.pair_history.specs.Entries.{Frame, Entry, DropIn, Land, DropOut}
use Rattle.pair_history.specs.HistoryState.{HistoryState, after}

-- what each frame that leaves the gate for a client adds: it lands, or is dropped at a full box
abbrev pub landings : List (List Frame) → List (ℕ × Frame) → List Entry
landings boxes [] = []
landings boxes (p ∷ ps) =
    (if has_room boxes p.0 then Land p.0 else DropOut p.0 box_frames) ∷ landings (landed_at boxes p.0 p.1) ps

-- the frame at that place is dropped since the client's box is full
abbrev pub IsAtFull : HistoryState → ℕ → ℕ → Type 0
IsAtFull s c place = (place ≡ box_frames) × (length (list_of s.boxes c) ≡ box_frames)

-- it lies in the box: so a loss was asked for
abbrev pub IsInBox : HistoryState → ℕ → ℕ → Type 0
IsInBox s c place = place < length (list_of s.boxes c)

-- each frame for a client was dropped out of its box, or as the next one on its way to it
abbrev pub DropsAreKnown : HistoryState → List Entry → Type 0
DropsAreKnown s [] = Unit {0}
DropsAreKnown s (DropOut c place ∷ es) = (place ≤ length (list_of s.boxes c)) × DropsAreKnown (after s (DropOut c place)) es
DropsAreKnown s (other ∷ es) = DropsAreKnown (after s other) es

-- each frame for a client was dropped by a loss that was asked for, which takes it out of its box, or at a full box
abbrev pub DropsAreAskedOrFull : HistoryState → List Entry → Type 0
DropsAreAskedOrFull s [] = Unit {0}
DropsAreAskedOrFull s (DropOut c place ∷ es) =
    (IsInBox s c place ⊎ IsAtFull s c place) × DropsAreAskedOrFull (after s (DropOut c place)) es
DropsAreAskedOrFull s (other ∷ es) = DropsAreAskedOrFull (after s other) es

-- these entries drop no frame but at full boxes
abbrev pub DropsAtFull : HistoryState → List Entry → Type 0
DropsAtFull s [] = Unit {0}
DropsAtFull s (DropIn n ∷ es) = ⊥
DropsAtFull s (DropOut c place ∷ es) = IsAtFull s c place × DropsAtFull (after s (DropOut c place)) es
DropsAtFull s (other ∷ es) = DropsAtFull (after s other) es

-- they drop none
abbrev pub DropsNone : List Entry → Type 0
DropsNone [] = Unit {0}
DropsNone (DropIn n ∷ es) = ⊥
DropsNone (DropOut c place ∷ es) = ⊥
DropsNone (other ∷ es) = DropsNone es

-- no box holds more than it has room for
abbrev pub BoxesFit : List (List Frame) → Type 0
BoxesFit [] = Unit {0}
BoxesFit (b ∷ bs) = (length b ≤ box_frames) × BoxesFit bs
