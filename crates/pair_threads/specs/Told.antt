-- What a client's answers tell of its history.
use Rattle.std.specs.Prelude.{◌≡◌, ℕ, false, List, [], ◌∷◌, ◌++◌, length}
use Rattle.std.specs.List.{Contains}
use Rattle.pair_history.specs.Entries as entries
use Rattle.pair_history.specs.Entries.{Entry}
use Rattle.pair_history.specs.HistoryState.{HistoryState}
use Rattle.pair_record.specs.declared.event.Reply.{Reply}
use Rattle.pair_record.specs.declared.event.Reply.TheVariants as replies
use Rattle.pair_record.specs.declared.event.Refusal.TheVariants.{Full}
use Rattle.pair_run.specs.declared.printing.Answered.{Answered}
use Rattle.pair_run.specs.declared.run_file.Action.{Action}
use Rattle.pair_run.specs.declared.run_file.Action.TheVariants as actions
use Rattle.pair_run.specs.declared.run_file.ClientLine.{ClientLine}
use Rattle.pair_record.specs.Protocol.{is_bad_length}
use Rattle.growing_history.specs.Entries.{own_entries}
use Rattle.hypervisor.specs.Clients.{ClientState, own}
use Rattle.hypervisor.specs.Refusals.{MayRefuseDelivery, entry_refusals}

-- WHICH ANSWERS AN ACTION MAY GET: those of the call that it makes, and no others. What is delivered has the length of a frame.

abbrev pub MayAnswer : Action → Reply → Type 0
MayAnswer actions.Take (replies.Took frame) = Unit {0}
MayAnswer actions.Take (replies.Refused why) = Contains entry_refusals why
MayAnswer (actions.Deliver bytes) (replies.Delivered number) = is_bad_length (length bytes.items) ≡ false
MayAnswer (actions.Deliver bytes) (replies.Refused why) = MayRefuseDelivery bytes.items why
MayAnswer action other = ⊥

-- one to each of several
abbrev pub MayAnswerAll : List Action → List Reply → Type 0
MayAnswerAll [] [] = Unit {0}
MayAnswerAll [] (reply ∷ answers) = ⊥
MayAnswerAll (action ∷ rest) [] = ⊥
MayAnswerAll (action ∷ rest) (reply ∷ answers) = MayAnswer action reply × MayAnswerAll rest answers

-- WHAT THEY TELL: the entry of a client's action with its answer; a refusal other than of a full inbox tells of nothing
abbrev pub entry_told : ℕ → Action → Reply → List Entry
entry_told c actions.Take (replies.Took frame) = entries.Took c frame ∷ []
entry_told c (actions.Deliver bytes) (replies.Delivered number) = entries.Delivered c (record { items = bytes.items }) number ∷ []
entry_told c (actions.Deliver bytes) (replies.Refused Full) = entries.Refused c (record { items = bytes.items }) ∷ []
entry_told c action reply = []

-- the entries of several, one after another
abbrev pub entries_told : ℕ → List Action → List Reply → List Entry
entries_told c [] answers = []
entries_told c (action ∷ rest) [] = []
entries_told c (action ∷ rest) (reply ∷ answers) = entry_told c action reply ++ entries_told c rest answers

-- A client has made these actions, and these are the answers: one that it may get to each, and its own entries in what it has seen are those
-- before, and what the answers tell.
pub record HasMade (start : HistoryState) (does : List Action) (answers : List Reply) (old new : ClientState) : Type 0 where
  pub number : new.number ≡ old.number
  pub may : MayAnswerAll does answers
  pub own : own start new ≡ own start old ++ entries_told old.number does answers

-- What a client's line was answered: to each of its actions an answer that it may get; and its own entries in this history are those that
-- the answers tell.
pub record IsAnswered (history : List Entry) (line : ClientLine) (answered : Answered) : Type 0 where
  pub client : answered.client ≡ line.client
  pub may : MayAnswerAll line.actions.items answered.replies.items
  pub own : own_entries line.client history ≡ entries_told line.client line.actions.items answered.replies.items

-- each line, in the order of the lines, by one history
abbrev pub AreAnswered : List Entry → List ClientLine → List Answered → Type 0
AreAnswered history [] [] = Unit {0}
AreAnswered history [] (answered ∷ others) = ⊥
AreAnswered history (line ∷ lines) [] = ⊥
AreAnswered history (line ∷ lines) (answered ∷ others) = IsAnswered history line answered × AreAnswered history lines others
