-- What contracts see of a client, and what its calls make of that.
use Rattle.std.specs.Prelude.{◌≡◌, ℕ, ◌≤◌, List, [], ◌∷◌, ◌++◌, length}
use Rattle.frame_ports.specs.Limits.{inbox_frames}
use Rattle.pair_history.specs.Entries.{Entry, Frame, Refused}
use Rattle.pair_history.specs.HistoryState.{HistoryState}
use Rattle.pair_record.specs.declared.event.Refusal.{Refusal}
use Rattle.pair_record.specs.declared.event.Refusal.TheVariants.{Full}
use Rattle.growing_history.specs.Entries.{own_entries, IsCall}
use Rattle.growing_history.specs.Steps.{Added, Step, Begins}
use Rattle.growing_history.specs.LogState.{LegalSteps, state_at, history_of, client_seat}
use Rattle.growing_history.specs.Views.{Member}
use Rattle.pair_book.specs.Books.{inbox_at}
use Rattle.pair_book.specs.Calls.{client_of}
use Rattle.hypervisor.specs.Seats.{MakesStep}

pub record ClientState : Type 0 where
  -- its number, counted from 1
  pub number : ℕ
  -- what it has seen: a beginning of the keeper's list of steps
  pub seen : List Step

-- by its seat
abbrev pub client_state : Member → ClientState
client_state m = record { number = client_of m.number; seen = m.steps }

-- its own entries in the history that it has seen: what it called, and what each call was answered
abbrev pub own : HistoryState → ClientState → List Entry
own start c = own_entries c.number (history_of start c.seen)

-- A call of the client's, which this entry tells. What the client has seen then is a legal list: it begins with what it had seen, and ends
-- with the step that tells the entry. So its history is the one that it had seen, what came between, and the entry; and its own entries
-- are those before and this one.
pub record Calls (start : HistoryState) (e : Entry) (old new : ClientState) : Type 0 where
  pub number : new.number ≡ old.number
  pub step : MakesStep start (client_seat old.number) (Added (e ∷ [])) old.seen new.seen
  pub entry : IsCall start old.number old.seen new.seen (e ∷ [])

-- after a refused delivery of that frame: an entry tells of a full inbox, and 64 frames of the client's are in it; after another refusal
-- everything is as before
abbrev pub RefusesDelivery : HistoryState → Frame → Refusal → ClientState → ClientState → Type 0
RefusesDelivery start f Full old new =
    (calls : Calls start (Refused old.number f) old new)
    × (inbox_frames ≤ length (inbox_at (state_at start (old.seen ++ calls.step.seen.0)) old.number))
RefusesDelivery start f why old new = new ≡ old

-- The client was told what another had seen: what it has seen then is a legal list, which begins with what it had seen, and with what it
-- was told; and its own entries are those before.
pub record Learns (start : HistoryState) (badge : List Step) (old new : ClientState) : Type 0 where
  pub number : new.number ≡ old.number
  pub legal : LegalSteps start new.seen
  pub seen : Begins old.seen new.seen
  pub told : Begins badge new.seen
  pub own : own start new ≡ own start old
