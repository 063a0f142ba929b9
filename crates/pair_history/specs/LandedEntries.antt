-- What landings under numbers add to the history: as what leaves the gate, and a frame that came for a client before adds nothing.
use Rattle.std.specs.Prelude.{ℕ, ◌+◌, ◌-◌, min, List, [], ◌∷◌, ◌++◌, length}
use Rattle.frame_ports.specs.Limits.{box_frames, number_limit}
use Rattle.frame_ports.specs.Numbers.{landing, after_landing}
use Rattle.frame_ports.specs.Ports.{PortsState}
use Rattle.frame_ports.specs.declared.landing.Landing.{Landing}
use Rattle.frame_ports.specs.declared.landing.Landing.TheVariants.{In, Dropped, Old}
use Rattle.output_gate.specs.Landings.{clients_for, landed_for}
use Rattle.pair_history.specs.Entries.{Frame, Entry, Land, DropOut}
use Rattle.pair_history.specs.Journal.{Journal, Stored, all_entries, with_history}

-- lists of frames, one after another
abbrev pub all_frames : List (List Frame) → List Frame
all_frames [] = []
all_frames (fs ∷ fss) = fs ++ all_frames fss

-- what becomes of one frame for client c
abbrev pub entries_of_landing : ℕ → Landing → List Entry
entries_of_landing c In = Land c ∷ []
entries_of_landing c Dropped = DropOut c box_frames ∷ []
entries_of_landing c Old = []

-- for each of these clients in turn
abbrev pub entries_for : PortsState → List ℕ → ℕ → Frame → List Entry
entries_for p [] n f = []
entries_for p (c ∷ cs) n f = entries_of_landing c (landing p c n) ++ entries_for (after_landing p c n f) cs n f

-- of these frames in order, the first of them under that number
abbrev pub entries_after : PortsState → ℕ → List Frame → List Entry
entries_after p first [] = []
entries_after p first (f ∷ fs) =
    entries_for p (clients_for p f) first f ++ entries_after (landed_for p (clients_for p f) first f) (first + 1) fs

-- What a stored journal has heard of landings: all but its room. What it hears of a frame for client c it writes into the history.
abbrev pub Heard : Type 0
Heard = Journal × ℕ

abbrev pub heard : Stored → Heard
heard s = (s.journal, s.arrival_room)

abbrev pub written : Heard → ℕ → Landing → Heard
written h c l = (with_history h.0 (entries_of_landing c l), h.1)

-- how many more entries it has places and numbers for
abbrev pub entries_left : Stored → ℕ
entries_left s = min s.room (number_limit - (length (all_entries s.journal) + 1))
