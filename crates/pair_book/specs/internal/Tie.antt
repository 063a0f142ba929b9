-- The record is the one that the keeper's steps lead to.
use Rattle.std.specs.Prelude.{◌≡◌, List, length, map}
use Rattle.frame_ports.specs.Ports.{PortsState}
use Rattle.pair_history.specs.Entries.{Entry, Arrive}
use Rattle.pair_history.specs.HistoryState.{HistoryState}
use Rattle.pair_record.specs.Accords.{Accords}
use Rattle.pair_record.specs.Protocol.{Record}
use Rattle.pair_record.specs.Record.{RecordState}
use Rattle.growing_history.specs.Steps.{Step}
use Rattle.growing_history.specs.LogState.{LegalSteps, LogState, state_at, history_of}
use Rattle.growing_history.specs.Views.{Keeper}
use Rattle.pair_book.specs.Books.{BookState}
use Rattle.pair_book.specs.Packets.{TextsState}
use Rattle.pair_book.specs.internal.Waits.{AreWaiting}

abbrev pub book_state : Keeper → RecordState → TextsState → BookState
book_state keeper r texts =
    record { steps = keeper.steps; enrolled = keeper.enrolled; protocol = r.protocol; ports = r.ports; texts = texts }

abbrev pub sealed_entries : LogState → List (List Entry)
sealed_entries s = map (λ e. e.entries) s.sealed

-- Sealed epochs, mode and numbers are those of the steps; the epoch that runs, as far as the book knows, is the arrivals of what was handed
-- out; there are as many boxes as where the history starts, and the inboxes are what waits. Unless a commit is marked, the history is that
-- of the steps, and record and ports accord with it: after a marked one the guest that goes on may send what the history's guest didn't.
pub record IsTied (start : HistoryState) (steps : List Step) (r : Record) (p : PortsState) : Type 0 where
  pub legal : LegalSteps start steps
  pub history : (state_at start steps).marked ≡ 0 → r.journal.history ≡ history_of start steps
  pub sealed : r.journal.sealed ≡ sealed_entries (state_at start steps)
  pub running : r.journal.running ≡ map Arrive (state_at start steps).handed
  pub mode : r.mode ≡ (state_at start steps).mode
  pub generation : r.generation ≡ (state_at start steps).generation
  pub next : r.window.to_cut ≡ (state_at start steps).next
  pub clients : length p.boxes ≡ length start.boxes
  pub waits : AreWaiting (state_at start steps) p
  pub accords : (state_at start steps).marked ≡ 0 → Accords start r p
