-- Why a frame was dropped.
use Rattle.std.specs.Prelude.{◌≡◌, ◌⊎◌, false, ℕ, List, [], ◌∷◌, ◌++◌, Some, slice_get}
use Rattle.pair_history.specs.Entries.{Frame, Entry, DropIn, DropOut}
use Rattle.pair_history.specs.HistoryState.{HistoryState, inbox_of, at}
use Rattle.pair_history.specs.Landings.{IsInBox, DropsAtFull, DropsNone}
use Rattle.pair_history.specs.Failures.{go_live_entries, arrived_numbers, rising}
use Rattle.pair_history.specs.Leaving.{LeaveInOrder}
use Rattle.pair_record.specs.declared.event.Event.{Event}
use Rattle.pair_record.specs.declared.event.Event.TheVariants.{Step, AckGet, LoseIn, LoseOut, FailBackup, GoLive}
use Rattle.pair_record.specs.declared.event.Reply.{Reply}
use Rattle.pair_record.specs.declared.event.Reply.TheVariants.{Acked, Dropped, Live}
use Rattle.pair_record.specs.Journal.{kept_entries}
use Rattle.pair_record.specs.Modes.{is_alone}
use Rattle.pair_record.specs.Protocol.{Record, shown_at, let_go}
use Rattle.pair_core.specs.Answering.{AnswersEvent}
use Rattle.pair_core.specs.Lines.{Protocol}

-- What an event may drop, where the history and what the guest did ahead of it were so, and the history grows by these entries: a loss
-- that was asked for drops that frame and no other; where frames land, which is at an acknowledgement, where the backup fails, and at a
-- step of a node that is alone, what finds its client's box full; the backup that goes live drops each frame that the guest took in
-- ahead of the history, and what is on its way lands then, or finds its client's box full; nothing else drops a frame.
abbrev pub Loses : HistoryState → List Entry → List Entry → Event → Reply → List Entry → Type 0
Loses start history ahead (LoseIn c place) Dropped es =
    (n : ℕ) × (f : Frame) × (slice_get (inbox_of c (at start (history ++ ahead)).waiting) place ≡ Some (n, f)) × (es ≡ DropIn n ∷ [])
Loses start history ahead (LoseOut c place) Dropped es = IsInBox (at start history) c place × (es ≡ DropOut c place ∷ [])
Loses start history ahead (AckGet k) reply es = DropsAtFull (at start history) es
Loses start history ahead Step reply es = DropsAtFull (at start history) es
Loses start history ahead FailBackup reply es = DropsAtFull (at start history) es
Loses start history ahead GoLive (Live generation steps) es = es ≡ go_live_entries (at start history) ahead
Loses start history ahead event reply es = DropsNone es

-- the same at a record
abbrev pub DropsOnly : HistoryState → Record → Event → Reply → List Entry → Type 0
DropsOnly start old event reply es = Loses start old.journal.history (kept_entries old.journal) event reply es

-- What leaves for clients where an event adds these entries: at an acknowledgement the frames of the checkpoints up to its number, and
-- where the backup goes live all that is on its way, in the order in which they were sent, and none is given up. While there is a backup
-- nothing else lets a frame leave.
abbrev pub LetsOut : HistoryState → Record → Event → Reply → List Entry → Type 0
LetsOut start r (AckGet k) (Acked generation number landed) es =
    LeaveInOrder (shown_at start r) es (let_go (shown_at start r).boxes r number)
LetsOut start r Step reply es = is_alone r.mode ≡ false → LeaveInOrder (shown_at start r) es []
LetsOut start r FailBackup reply es = Unit {0}
LetsOut start r GoLive (Live generation steps) es = LeaveInOrder (shown_at start r) es (shown_at start r).out
LetsOut start r event reply es = LeaveInOrder (shown_at start r) es []

-- An event, answered so, makes the history grow by entries that drop what it may drop, and let out what it may let out.
pub record Drops (start : HistoryState) (old : Protocol) (event : Event) (reply : Reply) (new : Protocol) : Type 0 where
  pub answers : AnswersEvent start old event reply new
  pub entries : List Entry
  pub grows : new.state.journal.history ≡ old.state.journal.history ++ entries
  pub only : DropsOnly start old.state event reply entries
  pub lets : LetsOut start old.state event reply entries

-- Why frames that clients delivered, of these numbers, were dropped: none was; or a loss was asked for, of that one frame; or the backup
-- went live, and the epochs that had taken them in were never committed.
abbrev pub WhyLost : Record → Event → List ℕ → Type 0
WhyLost old event numbers =
    (numbers ≡ [])
    ⊎ ((c : ℕ) × (place : ℕ) × (n : ℕ) × (event ≡ LoseIn c place) × (numbers ≡ n ∷ []))
    ⊎ ((event ≡ GoLive) × (numbers ≡ rising (arrived_numbers (kept_entries old.journal))))
