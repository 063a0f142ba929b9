-- What a client's thread has.
use Rattle.std.specs.Prelude.{◌≡◌, ◌≢◌, ℕ, ◌+◌, ◌≤◌, Bool, true, List, [], ◌∷◌, ◌++◌, length, map, Vec, vec_capacity}
use Rattle.std.specs.Global.{Global}
use Rattle.pair_history.specs.HistoryState.{HistoryState}
use Rattle.pair_record.specs.declared.event.Reply.{Reply}
use Rattle.pair_run.specs.declared.printing.Answered.{Answered}
use Rattle.pair_run.specs.declared.run_file.Action.{Action}
use Rattle.pair_run.specs.declared.run_file.ClientLine.{ClientLine}
use Rattle.growing_history.specs.LogState.{state_at}
use Rattle.growing_history.specs.Steps.{Step}
use Rattle.hypervisor.specs.Clients.{ClientState, own}
use Rattle.hypervisor.specs.Looking.{HasFound, SeeAll}
use Rattle.hypervisor.specs.Opening.{new_client}
use Rattle.hypervisor.specs.declared.looking.Found.{Found}
use Rattle.pair_threads.specs.Runs.{IsLaterRunFrom}
use Rattle.pair_threads.specs.Told.{HasMade, MayAnswer, entry_told}
use Rattle.pair_threads.specs.declared.file_run.Unplayed.{Unplayed}
use Rattle.pair_threads.specs.declared.file_run.Unplayed.TheVariants.{NoMemory, Later}

pub record ScriptState : Type 0 where
  pub client : ClientState
  pub line : ClientLine
  -- what the client was answered so far
  pub replies : Vec Reply Global

abbrev pub script_state : ClientState → ClientLine → Vec Reply Global → ScriptState
script_state client line replies = record { client = client; line = line; replies = replies }

-- nothing was answered yet, and there is room for an answer to each action
pub record HasRoom (script : ScriptState) : Type 0 where
  pub none : script.replies.items ≡ []
  pub enough : length script.line.actions.items ≤ vec_capacity script.replies

-- one action was answered so, as it may be: the client's own entries are those before and what the answer tells
pub record Tells (start : HistoryState) (action : Action) (reply : Reply) (old new : ClientState) : Type 0 where
  pub number : new.number ≡ old.number
  pub may : MayAnswer action reply
  pub own : own start new ≡ own start old ++ entry_told old.number action reply

-- the thread has made all actions, where there was room for the answers
abbrev pub HasPlayed : HistoryState → ScriptState → ScriptState → Type 0
HasPlayed start old new =
    (new.line ≡ old.line)
    × (HasRoom old → HasMade start old.line.actions.items new.replies.items old.client new.client)

-- the script of a line, with the client, who has seen nothing
pub record IsScript (read : ClientLine) (script : ScriptState) : Type 0 where
  pub client : script.client ≡ new_client read.client
  pub line : script.line ≡ read
  pub room : HasRoom script

abbrev pub AreScripts : List ClientLine → List ScriptState → Type 0
AreScripts [] [] = Unit {0}
AreScripts [] (script ∷ scripts) = ⊥
AreScripts (line ∷ lines) [] = ⊥
AreScripts (line ∷ lines) (script ∷ scripts) = IsScript line script × AreScripts lines scripts

-- the script of a line goes last into the list
abbrev pub AddsScript : ClientLine → List ScriptState → List ScriptState → Type 0
AddsScript line old new = (script : ScriptState) × IsScript line script × (new ≡ old ++ script ∷ [])

abbrev pub answered_of : ScriptState → Answered
answered_of script = record { client = script.line.client; replies = script.replies }

abbrev pub client_of : ScriptState → ClientState
client_of script = script.client

-- A run has ended, and these are its scripts: there is one list of all steps, which their clients have seen; it has so many entries, as far
-- as was found; what is told is what each script was answered; and where the run is said to be whole, it is as far as was found.
pub record HasEnded (start : HistoryState) (ended : List ScriptState) (epochs : ℕ) (clients : List Answered) (entries : ℕ) (is_whole : Bool) :
    Type 0 where
  pub all : List Step
  pub found : Found
  pub has : HasFound start all found
  pub unmarked : (state_at start all).marked ≡ 0
  pub looked : List ClientState
  pub see : SeeAll start all (map client_of ended) looked
  pub answered : clients ≡ map answered_of ended
  pub count : entries ≡ found.entries
  pub whole : is_whole ≡ true → (found.generation ≡ 1) × (found.next ≡ epochs + 1) × (found.pending ≡ 0)

-- A run has ended, and these are its scripts: there is one list of all steps, which their clients have seen, and by what was found in it
-- the pair is in a later generation than its first.
pub record HasEndedLater (start : HistoryState) (ended : List ScriptState) : Type 0 where
  pub all : List Step
  pub found : Found
  pub has : HasFound start all found
  pub later : found.generation ≢ 1
  pub looked : List ClientState
  pub see : SeeAll start all (map client_of ended) looked

-- WHY NOTHING IS TOLD of a run: for want of memory, or since a node has failed in it

abbrev pub HasEndedUntold : HistoryState → List ScriptState → Unplayed → Type 0
HasEndedUntold start ended NoMemory = Unit {0}
HasEndedUntold start ended (Later _) = HasEndedLater start ended

abbrev pub IsUntold : HistoryState → List ClientLine → Unplayed → Type 0
IsUntold start lines NoMemory = Unit {0}
IsUntold start lines (Later _) = IsLaterRunFrom start lines
