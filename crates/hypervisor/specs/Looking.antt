-- How far a pair has come, once clients have looked: all of them have seen one list of steps, which is all that were made.
use Rattle.std.specs.Prelude.{◌≡◌, ℕ, ◌<◌, List, [], length, get_or}
use Rattle.pair_history.specs.HistoryState.{HistoryState}
use Rattle.growing_history.specs.Entries.{own_entries}
use Rattle.growing_history.specs.Steps.{Step, Begins}
use Rattle.growing_history.specs.LogState.{LegalSteps, state_at, history_of}
use Rattle.pair_book.specs.Books.{BookState}
use Rattle.hypervisor.specs.Clients.{ClientState, own}
use Rattle.hypervisor.specs.Service.{AreOfOneGuest}
use Rattle.hypervisor.specs.declared.looking.Found.{Found}

-- A client has seen all of these steps, and no others. What it had seen begins them, and its own entries in their history are those that it
-- had.
pub record SeesAll (start : HistoryState) (all : List Step) (old new : ClientState) : Type 0 where
  pub number : new.number ≡ old.number
  pub sees : new.seen ≡ all
  pub begins : Begins old.seen all
  pub own : own_entries old.number (history_of start all) ≡ own start old

-- each of several, in their order
pub record SeeAll (start : HistoryState) (all : List Step) (old new : List ClientState) : Type 0 where
  pub count : length new ≡ length old
  pub each : (i : ℕ) (c : ClientState) → i < length old → SeesAll start all (get_or old i c) (get_or new i c)

-- at the book
abbrev pub found_at : BookState → Found
found_at b = record {
  entries = length b.protocol.journal.history;
  generation = b.protocol.generation;
  next = b.protocol.window.to_cut;
  pending = length b.protocol.pending;
}

-- What was found, by all the steps that were made: the history's length, unless a commit is marked; the generation, and the number that its
-- next checkpoint gets; and where no checkpoint is pending, each that was sealed is committed. Their history is of one guest that never
-- fails, unless a commit is marked.
pub record HasFound (start : HistoryState) (all : List Step) (found : Found) : Type 0 where
  pub legal : LegalSteps start all
  pub guest : AreOfOneGuest start all
  pub entries : (state_at start all).marked ≡ 0 → found.entries ≡ length (history_of start all)
  pub generation : found.generation ≡ (state_at start all).generation
  pub next : found.next ≡ (state_at start all).next
  pub sealed : found.pending ≡ 0 → (state_at start all).sealed ≡ []

-- and these clients have seen them
abbrev pub HaveLooked : HistoryState → Found → List ClientState → List ClientState → Type 0
HaveLooked start found old new = (all : List Step) × HasFound start all found × SeeAll start all old new
