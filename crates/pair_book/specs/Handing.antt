-- How frames are handed out to the runner: the first four of each inbox, clients rising.
use Rattle.std.specs.Prelude.{◌≡◌, ℕ, zero, suc, ◌+◌, ◌<◌, ◌≤◌, List, [], ◌∷◌, ◌++◌, length, map, take, drop}
use Rattle.frame_ports.specs.Lands.{list_of}
use Rattle.frame_ports.specs.Ports.{PortsState}
use Rattle.pair_history.specs.Entries.{Frame, Entry, Arrive}
use Rattle.pair_record.specs.EpochActs.{hand_out_done}
use Rattle.pair_record.specs.Journal.{with_running}
use Rattle.pair_record.specs.Protocol.{Record}
use Rattle.pair_record.specs.Record.{ports_after_admit}

-- the record and the ports, and the frames that were handed out so far, each with its number
pub record Handing : Type 0 where
  pub protocol : Record
  pub ports : PortsState
  pub frames : List (ℕ × Frame)

abbrev pub handing : Record → PortsState → List (ℕ × Frame) → Handing
handing r p fs = record { protocol = r; ports = p; frames = fs }

-- once that frame of client c was handed out
abbrev pub handed_one : ℕ → ℕ × Frame → Handing → Handing
handed_one c x h = handing (hand_out_done h.protocol x.0).1 (ports_after_admit h.ports c) (h.frames ++ x ∷ [])

-- once all of these were, one after another
abbrev pub handed_all : ℕ → List (ℕ × Frame) → Handing → Handing
handed_all c [] h = h
handed_all c (x ∷ xs) h = handed_all c xs (handed_one c x h)

-- once the first four frames of each of that many clients were, clients rising from that one
abbrev pub handed_out : ℕ → ℕ → Handing → Handing
handed_out zero c h = h
handed_out (suc m) c h = handed_out m (c + 1) (handed_all c (take 4 (list_of h.ports.inboxes c)) h)

-- the first four frames of each of that many inboxes
abbrev pub firsts : ℕ → ℕ → List (List (ℕ × Frame)) → List (ℕ × Frame)
firsts zero c inboxes = []
firsts (suc m) c inboxes = take 4 (list_of inboxes c) ++ firsts m (c + 1) inboxes

abbrev pub arrivals_of : List (ℕ × Frame) → List Entry
arrivals_of xs = map Arrive (map (λ (x : ℕ × Frame). x.0) xs)

abbrev pub with_arrivals : List (ℕ × Frame) → Record → Record
with_arrivals xs r = record r { journal = with_running r.journal (arrivals_of xs) }

-- These frames were handed out: the epoch that runs has grown by their arrivals, and nothing else of the record has changed; the ports have
-- as many inboxes as before.
pub record HandsOut (h : Handing) (xs : List (ℕ × Frame)) (now : Handing) : Type 0 where
  pub protocol : now.protocol ≡ with_arrivals xs h.protocol
  pub frames : now.frames ≡ h.frames ++ xs
  pub next : now.ports.next ≡ h.ports.next
  pub boxes : now.ports.boxes ≡ h.ports.boxes
  pub numbers : now.ports.numbers ≡ h.ports.numbers
  pub count : length now.ports.inboxes ≡ length h.ports.inboxes

-- The first four frames of each of that many clients were handed out, from client c on: their inboxes have lost them, and no other.
pub record HandsOutFirsts (m c : ℕ) (h now : Handing) : Type 0 where
  pub out : HandsOut h (firsts m c h.ports.inboxes) now
  pub lose : (d : ℕ) → c ≤ d → d < c + m → list_of now.ports.inboxes d ≡ drop 4 (list_of h.ports.inboxes d)
  pub stay : (d : ℕ) → 1 ≤ d → d < c → list_of now.ports.inboxes d ≡ list_of h.ports.inboxes d

-- WHAT IS HANDED OUT ONCE AN EPOCH ENDED: nothing where some of what was handed out before has still to arrive

-- once these were, where that is what still runs
abbrev pub handed_behind : List Entry → Handing → Handing
handed_behind [] h = handed_out (length h.ports.boxes) 1 h
handed_behind (e ∷ es) h = h

abbrev pub handed_next : Handing → Handing
handed_next h = handed_behind h.protocol.journal.running h

abbrev pub HandsBehind : List Entry → Handing → Handing → Type 0
HandsBehind [] h now = HandsOutFirsts (length h.ports.boxes) 1 h now
HandsBehind (e ∷ es) h now = now ≡ h

-- the first four of each inbox, or none
abbrev pub HandsNext : Handing → Handing → Type 0
HandsNext h now = HandsBehind h.protocol.journal.running h now
