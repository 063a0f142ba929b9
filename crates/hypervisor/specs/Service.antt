-- What a client can rely on, whatever the threads do.
use Rattle.std.specs.Prelude.{◌≡◌, ℕ, List, ◌∷◌, ◌++◌}
use Rattle.std.specs.List.{All}
use Rattle.pair_history.specs.Entries as entries
use Rattle.pair_history.specs.Entries.{Entry}
use Rattle.pair_history.specs.HistoryState.{HistoryState, at}
use Rattle.pair_history.specs.HistoryState as history
use Rattle.pair_history.specs.Released.{account, WasSent}
use Rattle.growing_history.specs.Entries.{own_entries}
use Rattle.growing_history.specs.Steps.{Step}
use Rattle.growing_history.specs.LogState.{LegalSteps, state_at, history_of}
use Rattle.growing_history.specs.Service.{GuestAnswers}
use Rattle.hypervisor.specs.Clients.{ClientState, own}

-- A history of one guest that never fails, behind a line that may drop frames: it is legal; each call in it was answered as the guest's
-- state at that point answers it; and what came to a client was sent to it by a step of the guest.
pub record HasOneGuest (start : HistoryState) (es : List Entry) : Type 0 where
  pub legal : history.Legal start es
  pub answers : (before later : List Entry) (e : Entry) → es ≡ before ++ e ∷ later → GuestAnswers (at start before) e
  pub came : (c : ℕ) → All (WasSent start es c) (account start es c).released

-- unless a commit is marked among these steps, their history is such a one
abbrev pub AreOfOneGuest : HistoryState → List Step → Type 0
AreOfOneGuest start steps = (state_at start steps).marked ≡ 0 → HasOneGuest start (history_of start steps)

-- What a client has seen is a point of these steps' history, which has all its calls, with their answers, and no others of it.
pub record IsPointOf (start : HistoryState) (all : List Step) (client : ClientState) : Type 0 where
  pub begins : entries.Begins (history_of start client.seen) (history_of start all)
  pub own : own_entries client.number (history_of start all) ≡ own start client

-- What two clients have seen are points of one growing history.
pub record ShareOneHistory (start : HistoryState) (c d : ClientState) : Type 0 where
  pub all : List Step
  pub legal : LegalSteps start all
  pub guest : AreOfOneGuest start all
  pub one : IsPointOf start all c
  pub other : IsPointOf start all d
