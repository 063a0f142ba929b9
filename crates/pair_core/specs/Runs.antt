-- Whole runs: of events, and of the guest's steps.
use Rattle.std.specs.Prelude.{◌≡◌, ℕ, zero, suc, ◌<◌, ◌⊎◌, true, List, replicate}
use Rattle.pair_record.specs.declared.event.Event.{Event}
use Rattle.memory_wanted.specs.Wanted.{wanted}
use Rattle.pair_record.specs.declared.event.Refusal.TheVariants.{NoMemory}
use Rattle.pair_record.specs.declared.event.Reply.{Reply}
use Rattle.pair_record.specs.declared.event.Reply.TheVariants as replies
use Rattle.pair_history.specs.Entries.{Ran}
use Rattle.pair_history.specs.HistoryState.{HistoryState}
use Rattle.pair_record.specs.Journal.{with_running}
use Rattle.pair_record.specs.Modes.{is_alone}
use Rattle.pair_core.specs.Nodes.{after_run}
use Rattle.pair_record.specs.Protocol.{Record, Outcome, live_at, refused, step_outcome}
use Rattle.pair_core.specs.Along.{Along}
use Rattle.pair_core.specs.Answering.{AnswersEvent, MayWantMemory}
use Rattle.pair_core.specs.Lines.{Protocol}
use Rattle.pair_core.specs.Pair.{Pair}

-- These events, one after another, may be answered so, and lead from the protocol's record old to new.
abbrev pub Run : HistoryState → Protocol → List Event → List Reply → Protocol → Type 0
Run start old events replies new = Along (AnswersEvent start) old events replies new

-- one more of several steps, after the answer of those before: a refusal ends them
abbrev pub goes_on : HistoryState → Reply → Record → Outcome
goes_on start (replies.Refused why) r = refused r why
goes_on start reply r = step_outcome start r

-- so many steps, one after another: the answer is the last one's, or the first refusal. No step at all answers the step count
-- as it is
unfoldable pub steps_outcome : HistoryState → Record → ℕ → Outcome
steps_outcome start r zero = (replies.Steps (live_at start r).guest.steps, r)
steps_outcome start r (suc n) =
    let before = steps_outcome start r n in
    goes_on start before.0 before.1

-- What so many steps may be answered, and leave: by the protocol; or, where a node is alone, for want of memory before one of them,
-- and those before it stay made.
abbrev pub StepsAnswerIn : HistoryState → Record → ℕ → Reply → Record → Type 0
StepsAnswerIn start old count reply new =
    ((reply, new) ≡ steps_outcome start old count)
    ⊎ ((is_alone old.mode ≡ true) × (reply ≡ replies.Refused (NoMemory wanted))
    × ((made : ℕ) × (made < count) × (steps : ℕ) × ((replies.Steps steps, new) ≡ steps_outcome start old made)
    × MayWantMemory new (step_outcome start new)))

-- the same with the lines, on which steps send nothing
abbrev pub StepsAnswer : HistoryState → Protocol → ℕ → Reply → Protocol → Type 0
StepsAnswer start old count reply new = StepsAnswerIn start old.state count reply new.state × (new.lines ≡ old.lines)

-- the pair after n steps of its live guest
abbrev pub with_steps : ℕ → Pair → Pair
with_steps n w = record w {
  protocol = record w.protocol {
    state = record w.protocol.state { journal = with_running w.protocol.state.journal (replicate n Ran) };
  };
  nodes = after_run n w.nodes;
}
