-- That a change of mode goes by its row of failover's state table, and that no other event changes mode or generation.
use Rattle.std.proofs.Common.{◌≡◌, refl, sym, subst, arith, List, [], Option, None, inl, inr}
use Rattle.failover.specs.declared.mode.Mode.TheVariants.{Paired, Filling, Alone, Stopped}
use Rattle.failover.specs.{Changes.row, declared.change.Change.Change, declared.mode.Mode.Mode}
use Rattle.pair_history.specs.{Entries.Entry, HistoryState.HistoryState}
use Rattle.memory_wanted.specs.Wanted.{wanted}
use Rattle.pair_record.specs.declared.event.Event.{Event}
use Rattle.pair_record.specs.declared.event.Event.TheVariants.{FailPrimary, FailBackup, GoLive, Protect}
use Rattle.pair_record.specs.{declared.event.Refusal.Refusal, declared.event.Refusal.TheVariants.NoMemory, declared.event.Reply.Reply}
use Rattle.pair_record.specs.Modes.{change_refusal, mode_refusal}
use Rattle.pair_core.specs.{Answering.{AnswersEvent, AnswersIn}, Lines.{Lines, Protocol, got}, ModeChanges.{event_of, LeavesMode}}
use Rattle.pair_record.specs.Protocol.{Record, Outcome, allowed, outcome, or_else, first_refusal, refused, shown_at, outbox_of}
use Rattle.pair_record.specs.Protocol.{fail_primary_done, fail_backup_refusals, fail_backup_done, go_live_refusals, go_live_done}
use Rattle.pair_record.specs.Protocol.{protect_refusals, protect_done}
use Rattle.pair_core.specs.laws.Ends.{Ends, by_table, outcome_ends}
use Rattle.std.specs.Prelude.{Ok}
use Rattle.failover.specs.declared.change.Change.TheVariants as changes

stops : (mode : Mode) → change_refusal changes.FailPrimary mode ≡ None → row changes.FailPrimary mode ≡ Ok (Stopped, 0)
stops Paired e = refl
stops other e = absurd (cc)

leaves : (mode : Mode) → change_refusal changes.FailBackup mode ≡ None → row changes.FailBackup mode ≡ Ok (Alone, 0)
leaves Paired e = refl
leaves Filling e = refl
leaves other e = absurd (cc)

lives : (mode : Mode) → change_refusal changes.GoLive mode ≡ None → row changes.GoLive mode ≡ Ok (Alone, 1)
lives Stopped e = refl
lives other e = absurd (cc)

protects : (mode : Mode) → change_refusal changes.Protect mode ≡ None → row changes.Protect mode ≡ Ok (Filling, 1)
protects Alone e = refl
protects other e = absurd (cc)

-- each of the four changes is refused as its row says
pub rows_refuse : (change : Change) (mode : Mode) → mode_refusal mode (event_of change) ≡ change_refusal change mode
rows_refuse changes.FailPrimary mode = refl
rows_refuse changes.FailBackup mode = refl
rows_refuse changes.GoLive mode = refl
rows_refuse changes.Protect mode = refl

module _ (start : HistoryState) (r : Record) where
  abbrev Left : Event → Outcome → Type 0
  Left event o = LeavesMode event r o.0 o.1

  -- the four changes, as the protocol has them; `Ends` asks nothing of them here
  abbrev Other : Event → List Entry → Outcome → Type 0
  Other FailPrimary es o = Unit {0}
  Other FailBackup es o = Unit {0}
  Other GoLive es o = Unit {0}
  Other Protect es o = Unit {0}
  Other event es o = Left event o

  refuses : (event : Event) (why : Refusal) → Left event (refused r why)
  refuses FailPrimary why = refl
  refuses FailBackup why = refl
  refuses GoLive why = refl
  refuses Protect why = refl
  refuses other why = (refl, refl)

  other_refuses : (event : Event) (why : Refusal) → Other event [] (refused r why)
  other_refuses FailPrimary why = tt
  other_refuses FailBackup why = tt
  other_refuses GoLive why = tt
  other_refuses Protect why = tt
  other_refuses other why = (refl, refl)

  others : (l : Lines) → Ends start r l Other
  others l = record {
    refuses = λ event why plain. other_refuses event why;
    step = λ alone is. (refl, refl);
    cut = (refl, refl);
    send = (refl, refl);
    lost = λ k. ((refl, refl), (refl, refl));
    again = λ k. (refl, refl);
    commit = λ k goes. (refl, refl);
    acknowledge = λ k p is same. (refl, refl);
    empty = λ c place. ((refl, refl), (refl, refl), (refl, refl));
    admit = λ c n alone is. (refl, refl);
    full = λ c bytes. (refl, refl);
    deliver = λ c bytes. (refl, refl);
    take = λ c. (refl, refl);
    lose_in = λ c place x is. (refl, refl);
    lose_out = λ c place f is. (refl, refl);
    fail_primary = λ goes. tt;
    fail_backup = tt;
    go_live = tt;
    protect = tt;
  }

  -- an event that the mode lets by, and then a table of refusals
  by_rows : (event : Event) (o : Option Refusal) (done : Outcome) → (o ≡ None → Left event done)
      → Left event (or_else o (refused r) done)
  by_rows event o done goes = by_table (Left event) o (refused r) done (refuses event) goes

  event_left : (l : Lines) (event : Event) → Left event (outcome start r (got l event) event)
  event_left l FailPrimary =
      by_rows FailPrimary (mode_refusal r.mode FailPrimary) (fail_primary_done r) (λ goes. (0, stops r.mode goes, omega arith))
  event_left l FailBackup =
      let boxes = (shown_at start r).boxes in
      let done = fail_backup_done boxes (outbox_of start r) r in
      by_rows FailBackup (mode_refusal r.mode FailBackup) (allowed start r None FailBackup)
      (λ goes. by_rows FailBackup (first_refusal (fail_backup_refusals boxes (outbox_of start r) r)) done
      (λ none. (0, leaves r.mode goes, omega arith)))
  event_left l GoLive =
      let s = shown_at start r in
      by_rows GoLive (mode_refusal r.mode GoLive) (allowed start r None GoLive)
      (λ goes. by_rows GoLive (first_refusal (go_live_refusals s.boxes s.out r)) (go_live_done s.boxes s.out s.guest.steps r)
      (λ none. (1, lives r.mode goes, refl)))
  event_left l Protect =
      by_rows Protect (mode_refusal r.mode Protect) (allowed start r None Protect)
      (λ goes. by_rows Protect (first_refusal (protect_refusals r)) (protect_done r) (λ none. (1, protects r.mode goes, refl)))
  event_left l other = (outcome_ends start r l Other (others l) other).2

pub mode_left : (start : HistoryState) (old new : Protocol) (event : Event) (reply : Reply) → AnswersEvent start old event reply new
    → LeavesMode event old.state reply new.state
mode_left start old new event reply a = by_answer a.0
  where
    by_answer : AnswersIn start old.state (got old.lines event) event reply new.state → LeavesMode event old.state reply new.state
    by_answer (inl is) = subst (Left start old.state event) (sym is) (event_left start old.state old.lines event)
    by_answer (inr is) =
        subst (Left start old.state event) (λ i. (sym is.1 i, sym is.2 i)) (refuses start old.state event (NoMemory wanted))
