-- What contracts see of the pair's record: the protocol's record, and the clients' ports; and what is true of every record.
use Rattle.std.specs.Prelude.{◌≡◌, ℕ, ◌+◌, ◌-◌, ◌≤◌, ◌<◌, Bool, true, false, List, [], ◌++◌, All, length, drop, remove, Option, None, Some}
use Rattle.frame_ports.specs.Addresses.{targets_of}
use Rattle.output_gate.specs.Epochs.{frames_of, frames_to}
use Rattle.output_gate.specs.Landings.{ports_after}
use Rattle.frame_ports.specs.Lands.{list_of, with_list, lands}
use Rattle.frame_ports.specs.Ports.{PortsState}
use Rattle.pair_history.specs.Entries.{Frame}
use Rattle.pair_history.specs.Journal.{empty_journal}
use Rattle.pair_record.specs.Modes.{is_alone}
use Rattle.pair_record.specs.Limits.{first_frame, last_frame}
use Rattle.pair_record.specs.Protocol.{Record}
use Rattle.pair_record.specs.Window.{start_window, IsWindow, committed_of}
use Rattle.failover.specs.declared.mode.Mode.{Mode}
use Rattle.failover.specs.declared.mode.Mode.TheVariants.{Paired, Filling, Alone, Stopped}
use Rattle.pair_record.specs.declared.window.Window.{Window}

-- The record, the clients' ports, and how many more stored entries its history takes without memory, and arrivals the epoch that runs.
pub record RecordState : Type 0 where
  pub protocol : Record
  pub ports : PortsState
  pub room : ℕ
  pub arrival_room : ℕ

-- all is as it was, but for the room
abbrev pub IsAsBefore : RecordState → RecordState → Type 0
IsAsBefore old new = (new.protocol ≡ old.protocol) × (new.ports ≡ old.ports)

-- what is on its way to the clients: what the gate holds of committed checkpoints
abbrev pub owed_to : Record → PortsState → List (ℕ × Frame)
owed_to r p = targets_of (length p.boxes) (frames_of (committed_of r.window r.pending))

-- what a call gave that answers whether it put a frame into this place
abbrev pub given : Bool → Frame → Option Frame
given true frame = Some frame
given false frame = None

-- the ports after an arrival, and after a loss: these, if the frame was there
abbrev pub ports_if_came : Option (ℕ × Frame) → PortsState → PortsState → PortsState
ports_if_came None after p = p
ports_if_came (Some first) after p = after

abbrev pub ports_if_lost : Bool → PortsState → PortsState → PortsState
ports_if_lost true after p = after
ports_if_lost false after p = p

-- nothing happened yet
abbrev pub start_record : Record
start_record = record {
  mode = Paired;
  generation = 1;
  journal = empty_journal;
  window = start_window;
  pending = [];
  next_frame = first_frame;
}

-- the number of the first frame that the gate holds; where it holds none, the number that the next one gets
abbrev pub first_held : Record → ℕ
first_held r = r.next_frame - length (frames_of r.pending)

-- the ports once these frames, none of which came for a client before, have landed in order, the first of them under this number
abbrev pub ports_landed : PortsState → ℕ → List Frame → PortsState
ports_landed p first fs = record p {
  boxes = lands p.boxes (targets_of (length p.boxes) fs);
  numbers = (ports_after p first fs).numbers;
}

-- the ports once what leaves the gate at that number has landed
abbrev pub ports_after_ack : PortsState → Record → ℕ → PortsState
ports_after_ack p r n = ports_landed p (first_held r) (frames_to n r.pending)

-- once all that the gate holds, and then the outbox, has landed
abbrev pub ports_after_all : PortsState → List Frame → Record → PortsState
ports_after_all p outbox r = ports_landed p (first_held r) (frames_of r.pending ++ outbox)

-- once the backup has gone live: what the gate held of committed checkpoints has landed
abbrev pub ports_after_live : PortsState → Record → PortsState
ports_after_live p r = ports_landed p (first_held r) (frames_of (committed_of r.window r.pending))

-- once the first frame of a client's inbox has left it, and once that of its box has
abbrev pub ports_after_admit : PortsState → ℕ → PortsState
ports_after_admit p c = record p { inboxes = with_list p.inboxes c (drop 1 (list_of p.inboxes c)) }

abbrev pub ports_after_take : PortsState → ℕ → PortsState
ports_after_take p c = record p { boxes = with_list p.boxes c (drop 1 (list_of p.boxes c)) }

-- once a frame of a client's inbox is lost, and once one of its box is
abbrev pub ports_after_lose_in : PortsState → ℕ → ℕ → PortsState
ports_after_lose_in p c place = record p { inboxes = with_list p.inboxes c (remove (list_of p.inboxes c) place) }

abbrev pub ports_after_lose_out : PortsState → ℕ → ℕ → PortsState
ports_after_lose_out p c place = record p { boxes = with_list p.boxes c (remove (list_of p.boxes c) place) }

-- Where a node is alone nothing is sealed or pending. What was handed out to its guest may still run.
abbrev pub IsLone : Record → Type 0
IsLone r = (r.journal.sealed ≡ []) × (r.pending ≡ [])

-- A new backup takes the full checkpoint, number 0, next, which may still have to be sealed; a backup that could go on has taken one.
abbrev pub SuitsMode : Mode → Window → Type 0
SuitsMode Filling w = w.to_commit ≡ 0
SuitsMode Paired w = 1 ≤ w.to_commit
SuitsMode Stopped w = 1 ≤ w.to_commit
SuitsMode Alone w = Unit {0}

-- The window is that of what is pending; each checkpoint that was cut and not committed has its epoch; and where a node is alone nothing
-- is sealed or pending.
pub record IsRecord (r : Record) : Type 0 where
  pub window : IsWindow r.window r.pending
  pub sealed : r.window.to_commit + length r.journal.sealed ≡ r.window.to_cut
  pub alone : is_alone r.mode ≡ true → IsLone r
  pub suits : SuitsMode r.mode r.window

-- The numbers of frames: the first that the gate holds has at least number 1, and no frame with its number or a later one has come for a
-- client; and numbers are left for the frames of one epoch more, and where a backup has been sealed a checkpoint and may fail, of two.
pub record AreNumbered (r : Record) (p : PortsState) : Type 0 where
  pub held : length (frames_of r.pending) < r.next_frame
  pub new : All (λ n. n < first_held r) p.numbers
  pub left : r.next_frame ≤ last_frame + 512
  pub left_in_pair : is_alone r.mode ≡ false → 1 ≤ r.window.to_cut → r.next_frame ≤ last_frame + 256
