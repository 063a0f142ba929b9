-- How a record and the clients' ports stand to the history, between any two calls: the history is one of a guest that never fails, and
-- what is kept goes on from it. No machine stands in it; whoever holds machines says beside it what they are.
use Rattle.std.specs.Prelude.{◌≡◌, ℕ, ◌≤◌, List, [], ◌∷◌, ◌++◌, length, map}
use Rattle.guest_rules.specs.Guest.{Guest}
use Rattle.frame_ports.specs.Addresses.{targets_of}
use Rattle.frame_ports.specs.Lands.{list_of}
use Rattle.frame_ports.specs.Ports.{PortsState}
use Rattle.output_gate.specs.Epochs.{frames_of}
use Rattle.pair_history.specs.Entries.{Frame}
use Rattle.pair_history.specs.HistoryState.{HistoryState, Waiting, inbox_of, at, Legal}
use Rattle.pair_history.specs.Landings.{DropsAreAskedOrFull, BoxesFit}
use Rattle.pair_history.specs.Moves.{Move, entries_of, guest_along, frames_along, left, AllCan}
use Rattle.pair_history.specs.Reached.{AreRising}
use Rattle.pair_history.specs.Journal.{Journal}
pub use Rattle.pair_record.specs.Kept.{frames_by_epoch}
use Rattle.pair_record.specs.Protocol.{Record, shown_at}
use Rattle.pair_record.specs.Window.{committed_of, uncommitted_of}

-- moves, epoch by epoch
abbrev pub all_moves : List (List Move) → List Move
all_moves [] = []
all_moves (ms ∷ mss) = ms ++ all_moves mss

-- the frames that the guest sent, epoch by epoch
abbrev pub epoch_frames : Guest → List (List Move) → List (List Frame)
epoch_frames g [] = []
epoch_frames g (ms ∷ mss) = frames_along g ms ∷ epoch_frames (guest_along g ms) mss

-- the inboxes are what waits, client by client
abbrev pub AreInboxes : ℕ → List (List (ℕ × Frame)) → List Waiting → Type 0
AreInboxes count inboxes ws = (c : ℕ) → 1 ≤ c → c ≤ count → list_of inboxes c ≡ inbox_of c ws

-- The history is legal, and what is kept are moves of the guest that go on from it.
pub record IsJournal (start : HistoryState) (j : Journal) : Type 0 where
  pub legal : Legal start j.history
  pub drops : DropsAreAskedOrFull start j.history
  pub sealed_moves : List (List Move)
  pub running_moves : List Move
  pub sealed_are : j.sealed ≡ map entries_of sealed_moves
  pub running_are : j.running ≡ entries_of running_moves
  pub can : AllCan (at start j.history).waiting (all_moves sealed_moves ++ running_moves)

-- all moves that are kept
abbrev pub kept_moves : (start : HistoryState) (j : Journal) → IsJournal start j → List Move
kept_moves start j h = all_moves h.sealed_moves ++ h.running_moves

-- The ports, where the history's state is s and these frames still wait after what is kept.
pub record AreClients (s : HistoryState) (waiting : List Waiting) (p : PortsState) : Type 0 where
  pub number : p.next ≡ s.number
  pub rising : AreRising 1 p.next s.waiting
  pub count : length p.inboxes ≡ length p.boxes
  pub inboxes : AreInboxes (length p.boxes) p.inboxes waiting
  pub boxes : p.boxes ≡ s.boxes
  pub fit : BoxesFit p.boxes

-- A record and ports accord with the history from that start: the gate's frames of uncommitted checkpoints are, epoch by epoch, what the
-- guest sends along them; inboxes are what waits after all that is kept, boxes are the history's, and the next number is the history's;
-- what the history's state owes is what the gate holds of committed checkpoints.
pub record Accords (start : HistoryState) (r : Record) (p : PortsState) : Type 0 where
  pub journal : IsJournal start r.journal
  pub frames : frames_by_epoch (uncommitted_of r.window r.pending) ≡ epoch_frames (shown_at start r).guest journal.sealed_moves
  pub clients : AreClients (shown_at start r) (left (shown_at start r).waiting (kept_moves start r.journal journal)) p
  pub owed : (shown_at start r).out ≡ targets_of (length p.boxes) (frames_of (committed_of r.window r.pending))

module _ (start : HistoryState) (r : Record) (p : PortsState) (h : Accords start r p) where
  -- all moves that are sealed; all that are kept; and what still waits after these
  abbrev pub sealed_now : List Move
  sealed_now = all_moves h.journal.sealed_moves

  abbrev pub kept_now : List Move
  kept_now = kept_moves start r.journal h.journal

  abbrev pub left_now : List Waiting
  left_now = left (shown_at start r).waiting kept_now
