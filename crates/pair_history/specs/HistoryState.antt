-- What a history says of the guest and its clients: one guest that never fails behind a line that may drop frames.
use Rattle.std.specs.Prelude.{◌≡◌, ℕ, zero, suc, ◌+◌, ◌-◌, ◌<◌, ◌≤◌, ◌==◌, nat_lt, if◌then◌else◌, List, [], ◌∷◌, ◌++◌, length, slice_get}
use Rattle.std.specs.Prelude.{take, drop, remove, replicate, Option, None, Some}
use Rattle.guest_rules.specs.Guest.{Guest, boot_guest}
use Rattle.guest_rules.specs.Step.{next, sent, arrived}
use Rattle.frame_ports.specs.Addresses.{IsFrame, targets_of}
use Rattle.frame_ports.specs.Lands.{list_of, with_list}
use Rattle.frame_ports.specs.Limits.{inbox_frames, box_frames}
use Rattle.pair_history.specs.Entries.{Frame, Entry, Ran, Arrive, Delivered, Refused, DropIn, Land, DropOut, Took}

-- a frame that a client delivered and that hasn't arrived at the guest
pub record Waiting : Type 0 where
  pub number : ℕ
  pub client : ℕ
  pub frame : Frame

pub record HistoryState : Type 0 where
  -- the guest now
  pub guest : Guest
  -- the number that the next delivered frame gets
  pub number : ℕ
  -- the frames that wait for the guest, in the order delivered
  pub waiting : List Waiting
  -- the frames on their way, each with the client that it is for, in the order sent
  pub out : List (ℕ × Frame)
  -- the frames in each client's box; client c's box stands at place c - 1
  pub boxes : List (List Frame)

-- the frames of client c that wait, each with its number, the first delivered first
abbrev pub inbox_of : ℕ → List Waiting → List (ℕ × Frame)
inbox_of c [] = []
inbox_of c (x ∷ xs) = if x.client == c then (x.number, x.frame) ∷ inbox_of c xs else inbox_of c xs

-- the waiting frame of that number
abbrev pub frame_numbered : ℕ → List Waiting → Option Frame
frame_numbered n [] = None
frame_numbered n (x ∷ xs) = if x.number == n then Some x.frame else frame_numbered n xs

-- what waits without the frame of that number
abbrev pub without_number : ℕ → List Waiting → List Waiting
without_number n [] = []
without_number n (x ∷ xs) = if x.number == n then xs else x ∷ without_number n xs

-- the frame of that number waits, and is the first of its client
abbrev pub IsFirst : ℕ → List Waiting → Type 0
IsFirst n waiting = (c : ℕ) × (f : Frame) × (slice_get (inbox_of c waiting) 0 ≡ Some (n, f))

-- the guest after that frame, if there is one, arrived
abbrev pub with_arrived : Guest → Option Frame → Guest
with_arrived g None = g
with_arrived g (Some f) = arrived g f

-- the frames on their way to client c
abbrev pub out_of : ℕ → List (ℕ × Frame) → List Frame
out_of c [] = []
out_of c (p ∷ ps) = if p.0 == c then p.1 ∷ out_of c ps else out_of c ps

-- what is on its way without the frame at that place among those for client c
abbrev pub out_without : ℕ → ℕ → List (ℕ × Frame) → List (ℕ × Frame)
out_without c place [] = []
out_without c zero (p ∷ ps) = if p.0 == c then ps else p ∷ out_without c zero ps
out_without c (suc place) (p ∷ ps) = p ∷ out_without c (if p.0 == c then place else suc place) ps

abbrev pub IsClient : HistoryState → ℕ → Type 0
IsClient s c = (1 ≤ c) × (c ≤ length s.boxes)

-- what an entry needs
abbrev pub Allows : HistoryState → Entry → Type 0
Allows s Ran = Unit {0}
Allows s (Arrive n) = IsFirst n s.waiting
Allows s (Delivered c f n) = IsClient s c × IsFrame f × (n ≡ s.number)
Allows s (Refused c f) = IsClient s c × IsFrame f × (inbox_frames ≤ length (inbox_of c s.waiting))
Allows s (DropIn n) = (f : Frame) × (frame_numbered n s.waiting ≡ Some f)
Allows s (Land c) = IsClient s c × (0 < length (out_of c s.out)) × (length (list_of s.boxes c) < box_frames)
Allows s (DropOut c place) = IsClient s c × (place < length (list_of s.boxes c) + length (out_of c s.out))
Allows s (Took c (Some f)) = IsClient s c × (slice_get (list_of s.boxes c) 0 ≡ Some f)
Allows s (Took c None) = IsClient s c × (list_of s.boxes c ≡ [])

-- what an entry does
abbrev pub after : HistoryState → Entry → HistoryState
after s Ran = record s { guest = next s.guest; out = s.out ++ targets_of (length s.boxes) (sent s.guest) }
after s (Arrive n) = record s { guest = with_arrived s.guest (frame_numbered n s.waiting); waiting = without_number n s.waiting }
after s (Delivered c f n) =
    record s { number = s.number + 1; waiting = s.waiting ++ record { number = n; client = c; frame = f } ∷ [] }
after s (Refused c f) = s
after s (DropIn n) = record s { waiting = without_number n s.waiting }
after s (Land c) = record s { out = out_without c 0 s.out; boxes = with_list s.boxes c (list_of s.boxes c ++ take 1 (out_of c s.out)) }
after s (DropOut c place) =
    let box = list_of s.boxes c in
    record s {
      out = if nat_lt place (length box) then s.out else out_without c (place - length box) s.out;
      boxes = if nat_lt place (length box) then with_list s.boxes c (remove box place) else s.boxes;
    }
after s (Took c answer) = record s { boxes = with_list s.boxes c (drop 1 (list_of s.boxes c)) }

-- the state that entries lead to
abbrev pub at : HistoryState → List Entry → HistoryState
at s [] = s
at s (e ∷ es) = at (after s e) es

-- each entry has what it needs in its turn
abbrev pub Legal : HistoryState → List Entry → Type 0
Legal s [] = Unit {0}
Legal s (e ∷ es) = Allows s e × Legal (after s e) es

-- what entries contribute in their turn, one after another
abbrev pub along : {X : Type 0} → (HistoryState → Entry → List X) → HistoryState → List Entry → List X
along gives s [] = []
along gives s (e ∷ es) = gives s e ++ along gives (after s e) es

-- the frames that the guest sends along these entries
abbrev pub sent_by : HistoryState → Entry → List Frame
sent_by s Ran = sent s.guest
sent_by s other = []

abbrev pub sent_along : HistoryState → List Entry → List Frame
sent_along s es = along sent_by s es

-- the boot guest, nothing delivered, nothing on its way, and an empty box for each client
abbrev pub start_state : ℕ → ℕ → List ℕ → ℕ → HistoryState
start_state pages sectors image clients = record {
  guest = boot_guest pages sectors image;
  number = 1;
  waiting = [];
  out = [];
  boxes = replicate clients [];
}
