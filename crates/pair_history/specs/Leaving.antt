-- What has left for a client: each frame that was taken off those on their way to it, in that order, and how.
use Rattle.std.specs.Prelude.{◌≡◌, ℕ, ◌-◌, ◌==◌, nat_lt, Bool, true, false, if◌then◌else◌, List, [], All, filter, length, map, take, drop}
use Rattle.frame_ports.specs.Lands.{list_of}
use Rattle.frame_ports.specs.Limits.{box_frames}
use Rattle.pair_history.specs.Entries.{Frame, Entry, Land, DropOut}
use Rattle.pair_history.specs.HistoryState.{HistoryState, out_of, along}

pub data Way : Type 0 where
  -- it went into the client's box
  Landed : Way
  -- it was dropped, since the box was full
  AtFull : Way
  -- it was dropped though the box had room: it is owed no more
  GivenUp : Way

-- how the frame was dropped that a drop at this place names
abbrev pub drop_way : ℕ → Way
drop_way place = if place == box_frames then AtFull else GivenUp

abbrev pub in_way : Way → List Frame → List (Way × Frame)
in_way way fs = map (λ f. (way, f)) fs

-- what an entry takes off the frames on their way to client c
abbrev pub leaves_by : ℕ → HistoryState → Entry → List (Way × Frame)
leaves_by c s (Land d) = if d == c then in_way Landed (take 1 (out_of c s.out)) else []
leaves_by c s (DropOut d place) =
    let boxed = length (list_of s.boxes d) in
    if d == c then (if nat_lt place boxed then [] else in_way (drop_way place) (take 1 (drop (place - boxed) (out_of c s.out)))) else []
leaves_by c s other = []

-- what has left for client c along a history
abbrev pub leaving : HistoryState → List Entry → ℕ → List (Way × Frame)
leaving s es c = along (leaves_by c) s es

abbrev pub frames_left : List (Way × Frame) → List Frame
frames_left xs = map (λ (x : Way × Frame). x.1) xs

-- those that went into the client's box, in order
abbrev pub has_landed : Way → Bool
has_landed Landed = true
has_landed AtFull = false
has_landed GivenUp = false

abbrev pub frames_landed : List (Way × Frame) → List Frame
frames_landed xs = frames_left (filter (λ (x : Way × Frame). has_landed x.0) xs)

-- none was dropped while its client's box had room
abbrev pub is_given_up : Way → Bool
is_given_up GivenUp = true
is_given_up Landed = false
is_given_up AtFull = false

abbrev pub NotGivenUp : Way × Frame → Type 0
NotGivenUp x = is_given_up x.0 ≡ false

-- For each client, of these frames with their clients, its own leave along these entries, in order, and none is given up.
abbrev pub LeaveInOrder : HistoryState → List Entry → List (ℕ × Frame) → Type 0
LeaveInOrder s es ps = (c : ℕ) → (frames_left (leaving s es c) ≡ out_of c ps) × All NotGivenUp (leaving s es c)
