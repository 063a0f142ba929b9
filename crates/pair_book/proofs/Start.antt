-- The tie holds where nothing happened yet.
use Rattle.std.proofs.Common.{◌≡◌, ℕ, List, [], refl, sym, subst}
use Rattle.frame_ports.specs.Ports.{PortsState, empty_ports}
use Rattle.pair_history.specs.HistoryState.{HistoryState, start_state}
use Rattle.pair_record.specs.Protocol.{Record}
use Rattle.pair_record.specs.Record.{start_record}
use Rattle.pair_record.specs.laws.Accords.{start_accords}
use Rattle.growing_history.specs.LogState.{LegalSteps, start_of, state_at, history_of}
use Rattle.pair_book.specs.Opening.{IsBoot}
use Rattle.pair_book.proofs.Ties.{tied-as}
use Rattle.pair_book.specs.internal.{Tie.{IsTied}, Waits.AreWaiting}

pub nothing-legal : (h : HistoryState) → LegalSteps h []
unfolding LegalSteps
nothing-legal h = tt

start-waiting : (pages sectors : ℕ) (image : List ℕ) (clients : ℕ)
    → AreWaiting (start_of (start_state pages sectors image clients)) (empty_ports clients)
start-waiting pages sectors image clients =
    let a = (start_accords pages sectors image clients).clients in
    record { number = refl; rising = a.rising; count = a.count; there = tt; inboxes = a.inboxes }

at-start : (pages sectors : ℕ) (image : List ℕ) (clients : ℕ)
    → IsTied (start_state pages sectors image clients) [] start_record (empty_ports clients)
unfolding LegalSteps state_at history_of
at-start pages sectors image clients = record {
  legal = tt;
  history = λ none. refl;
  sealed = refl;
  running = refl;
  mode = refl;
  generation = refl;
  next = refl;
  clients = refl;
  waits = start-waiting pages sectors image clients;
  accords = λ none. start_accords pages sectors image clients;
}

pub start-tied : (start : HistoryState) (clients : ℕ) (r : Record) (p : PortsState) → IsBoot start clients → r ≡ start_record
    → p ≡ empty_ports clients → IsTied start [] r p
start-tied start clients r p boot is ports =
    tied-as is ports
    (subst (λ (h : HistoryState). IsTied h [] start_record (empty_ports clients)) (sym boot.is)
    (at-start boot.pages boot.sectors boot.image clients))
