-- What a backup that goes live brings, the frames of its last commits, and what becomes of them.
use Rattle.std.specs.Prelude.{◌≡◌, ℕ, ◌+◌, ◌-◌, List, ◌++◌, length, map, take}
use Rattle.frame_ports.specs.Ports.{PortsState}
use Rattle.output_gate.specs.Epochs.{Epoch, frames_of}
use Rattle.output_gate.specs.Landings.{AreOld, ports_after}
use Rattle.pair_history.specs.Entries.{Frame, Entry}
pub use Rattle.pair_history.specs.LandedEntries.{all_frames, entries_of_landing, entries_for, entries_after}
use Rattle.pair_record.specs.FailureActs.{first_uncommitted, live_refusals, live_done}
use Rattle.pair_record.specs.Record.{first_held}
use Rattle.pair_record.specs.Tables.{Record, Outcome, Row}
use Rattle.pair_record.specs.Window.{committed_of}

-- the frames of pending checkpoints, epoch by epoch
abbrev pub frames_by_epoch : List Epoch → List (List Frame)
frames_by_epoch es = map (λ e. e.frames) es

-- These lists, whose first frame has that number, end with what the gate holds of committed checkpoints, under its numbers; and the frames
-- before it have come for each of their clients.
pub record Brings (r : Record) (p : PortsState) (first : ℕ) (lists : List (List Frame)) : Type 0 where
  pub older : List Frame
  pub all : all_frames lists ≡ older ++ frames_of (committed_of r.window r.pending)
  pub number : first + length older ≡ first_held r
  pub came : AreOld p first older

-- These lists, whose first frame has that number, end so, epoch by epoch; the frames of the older ones have come for each of their clients;
-- and behind all of them comes the first frame that isn't committed.
pub record EndOwed (r : Record) (p : PortsState) (first : ℕ) (lists : List (List Frame)) : Type 0 where
  pub older : List (List Frame)
  pub all : lists ≡ older ++ frames_by_epoch (committed_of r.window r.pending)
  pub came : AreOld p first (all_frames older)
  pub count : first + length (all_frames lists) ≡ first_uncommitted r

-- WHERE THE BACKUP GOES LIVE, whatever it brings: of its frames, the first of which has that number, those land for whom they are new that
-- have no later number than the last frame of a committed checkpoint

abbrev pub brought : Record → ℕ → List (List Frame) → List Frame
brought r first lists = take (first_uncommitted r - first) (all_frames lists)

abbrev pub brought_entries : Record → PortsState → ℕ → List (List Frame) → List Entry
brought_entries r p first lists = entries_after p first (brought r first lists)

abbrev pub brought_refusals : Record → PortsState → ℕ → List (List Frame) → List Row
brought_refusals r p first lists = live_refusals (brought_entries r p first lists) r

abbrev pub brought_done : Record → PortsState → ℕ → List (List Frame) → ℕ → Outcome
brought_done r p first lists steps = live_done (brought_entries r p first lists) steps r

abbrev pub ports_after_brought : PortsState → Record → ℕ → List (List Frame) → PortsState
ports_after_brought p r first lists = ports_after p first (brought r first lists)
