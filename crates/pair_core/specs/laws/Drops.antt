-- What an event may drop and let out, however it is answered.
use Rattle.std.proofs.Common.{◌≡◌, ℕ, List, [], ◌∷◌, ◌++◌, sym, ap, ◌∙◌, Bool, true, false, Option, refl, None, Some}
use Rattle.std.proofs.{Common.{subst, arith, ◌<◌, length}, lemmas.Bool.Decides.nat_tests}
use Rattle.std.proofs.{lemmas.List.append_cancel_left, lemmas.List.Elements.{All-nil}}
use Rattle.std.specs.Prelude.{map, slice_get, get_or, All}
use Rattle.guest_rules.specs.Step.{sent}
use Rattle.frame_ports.specs.Lands.{list_of}
use Rattle.pair_history.specs.Entries.{Frame, Entry, Arrive, DropOut, Took}
use Rattle.pair_history.specs.{HistoryState.HistoryState, Landings.{DropsAtFull, DropsNone}}
use Rattle.pair_history.specs.Leaving.{LeaveInOrder, NotGivenUp, leaves_by, frames_left}
use Rattle.pair_history.specs.Moves.{Move, entries_of}
use Rattle.pair_history.specs.laws.GoingLive.{go_live_leaves}
use Rattle.pair_history.specs.laws.Leaving.{none_leave}
use Rattle.pair_history.specs.laws.Moves.{DropsNone-moves}
use Rattle.pair_record.specs.{declared.event.Event.Event, declared.event.Event.TheVariants.{Step, FailBackup}}
use Rattle.pair_record.specs.declared.event.Refusal.{Refusal}
use Rattle.pair_record.specs.declared.event.Reply.{Reply}
use Rattle.pair_core.specs.Answering.{AnswersEvent}
use Rattle.pair_record.specs.{Journal.{first_of, kept_entries}, Modes.is_alone}
use Rattle.pair_core.specs.{Drops.{DropsOnly, LetsOut, Drops}, Invariant.Holds}
use Rattle.pair_record.specs.{Protocol.step_entries, Record.IsRecord}
use Rattle.pair_core.specs.Pair.{Pair, shown_state, live_state}
use Rattle.pair_record.specs.laws.Alone.{step_drops, failure_drops}
use Rattle.pair_record.specs.laws.{Clients.{ack_lands, ack_leaves}, Live.{all_clients, all_fit}}
use Rattle.pair_core.specs.laws.{Consistent.of_guest, Ends.{Ends, answers_end, at_once}, Lines.below_at, Tells.takes-none}
use Rattle.pair_core.specs.Lines.{Protocol}
use Rattle.std.proofs.lemmas.Option.{slice_get_within}
use Rattle.pair_record.specs.declared.event.Reply.TheVariants as replies

-- Each event lets the history grow by entries that drop what it may drop.

-- an epoch is made of the guest's moves, which drop nothing
epoch-drops : (mss : List (List Move)) (ess : List (List Entry)) → ess ≡ map entries_of mss → DropsNone (first_of ess)
epoch-drops [] ess e = rw e tt
epoch-drops (ms ∷ mss) ess e = rw e (DropsNone-moves ms)

module _ (w : Pair) (h : Holds w) (k : IsRecord w.protocol.state) where
  abbrev boxes : List (List Frame)
  boxes = (shown_state w).boxes

  refused-drops : (event : Event) (why : Refusal) → DropsOnly w.start w.protocol.state event (replies.Refused why) []
  refused-drops Step why = tt
  refused-drops other why = tt

  drops_all : Ends w.start w.protocol.state w.protocol.lines (λ event es o. DropsOnly w.start w.protocol.state event o.0 es)
  drops_all = record {
    refuses = λ event why plain. refused-drops event why;
    step = by_mode;
    cut = tt;
    send = tt;
    lost = λ k. (tt, tt);
    again = λ k. tt;
    commit = λ n goes. epoch-drops h.accords.journal.sealed_moves w.protocol.state.journal.sealed h.accords.journal.sealed_are;
    -- what an acknowledgement lets go is dropped only at full boxes
    acknowledge = λ n p is same.
        let r = w.protocol.state in
        let below = below_at r.generation r.window.to_commit w.protocol.lines.back n (Some p) h.lines.back (sym is) same in
        rw (← h.accords.clients.boxes) (ack_lands w.start w.protocol.state w.ports h.accords k p.number below).2;
    empty = λ c place. (tt, tt, tt);
    admit = by_arrival;
    full = λ c bytes. tt;
    deliver = λ c bytes. tt;
    take = λ c. by_frame c (slice_get (list_of boxes c) 0);
    lose_in = λ c place x is. (x.0, x.1, is, refl);
    lose_out = λ c place f is. (slice_get_within (list_of boxes c) place f is, refl);
    fail_primary = λ goes. tt;
    fail_backup = failure_drops w.start w.protocol.state w.ports h.accords;
    go_live = refl;
    protect = tt;
  }
    where
      by_mode : (alone : Bool) → is_alone w.protocol.state.mode ≡ alone
          → DropsAtFull (shown_state w) (at_once alone (step_entries true boxes (sent (live_state w).guest)))
      by_mode false is = tt
      by_mode true is = step_drops w.start w.protocol.state w.ports h.accords (k.alone is) (h.still is)

      by_arrival : (c n : ℕ) (alone : Bool) → is_alone w.protocol.state.mode ≡ alone → DropsNone (at_once alone (Arrive n ∷ []))
      by_arrival c n false is = tt
      by_arrival c n true is = tt

      by_frame : (c : ℕ) (o : Option Frame) → DropsNone (Took c o ∷ [])
      by_frame c None = tt
      by_frame c (Some f) = tt

  -- WHAT LEAVES

  abbrev s : HistoryState
  s = shown_state w

  none_out : LeaveInOrder s [] []
  none_out c = (refl, All-nil NotGivenUp)

  refused-lets : (event : Event) (why : Refusal) → LetsOut w.start w.protocol.state event (replies.Refused why) []
  refused-lets Step why = λ two. none_out
  refused-lets FailBackup why = tt
  refused-lets other why = none_out

  -- what the guest did lets nothing out
  epoch-none : (mss : List (List Move)) (ess : List (List Entry)) → ess ≡ map entries_of mss → LeaveInOrder s (first_of ess) []
  epoch-none [] ess e = rw e none_out
  epoch-none (ms ∷ mss) ess e =
      let es = entries_of ms in
      rw e (none_leave s es (λ k d l. takes-none (get_or es k d) (of_guest ms k d l)))

  -- nor does a frame that lay in the box
  boxed-none : (c place d : ℕ) → place < length (list_of boxes c) → leaves_by d s (DropOut c place) ≡ []
  boxed-none c place d l = grind (arith, nat_tests)

  boxed-out : (c place : ℕ) → place < length (list_of boxes c) → LeaveInOrder s (DropOut c place ∷ []) []
  boxed-out c place l d =
      let none = boxed-none c place d l in
      (ap (λ x. frames_left (x ++ [])) none, subst (λ x. All NotGivenUp (x ++ [])) (sym none) (All-nil NotGivenUp))

  lets_all : Ends w.start w.protocol.state w.protocol.lines (λ event es o. LetsOut w.start w.protocol.state event o.0 es)
  lets_all = record {
    refuses = λ event why plain. refused-lets event why;
    step = step-lets;
    cut = none_out;
    send = none_out;
    lost = λ k. (none_out, none_out);
    again = λ k. none_out;
    commit = λ n goes. epoch-none h.accords.journal.sealed_moves w.protocol.state.journal.sealed h.accords.journal.sealed_are;
    acknowledge = λ n p is same.
        let r = w.protocol.state in
        let below = below_at r.generation r.window.to_commit w.protocol.lines.back n (Some p) h.lines.back (sym is) same in
        rw (← h.accords.clients.boxes) (ack_leaves w.start w.protocol.state w.ports h.accords k p.number below);
    empty = λ c place. (none_out, none_out, none_out);
    admit = admit-lets;
    full = λ c bytes d. (refl, All-nil NotGivenUp);
    deliver = λ c bytes d. (refl, All-nil NotGivenUp);
    take = λ c d. (refl, All-nil NotGivenUp);
    lose_in = λ c place x is d. (refl, All-nil NotGivenUp);
    lose_out = λ c place f is. boxed-out c place (slice_get_within (list_of boxes c) place f is);
    fail_primary = λ goes. none_out;
    fail_backup = tt;
    go_live = go_live_leaves s (kept_entries w.protocol.state.journal) (all_clients w.start w.protocol.state w.ports h.accords)
        (all_fit w.start w.protocol.state w.ports h.accords);
    protect = none_out;
  }
    where
      step-lets : (alone : Bool) → is_alone w.protocol.state.mode ≡ alone
          → is_alone w.protocol.state.mode ≡ false → LeaveInOrder s (at_once alone (step_entries true boxes (sent (live_state w).guest))) []
      step-lets false is two = none_out
      step-lets true is two = absurd (cc)

      admit-lets : (c n : ℕ) (alone : Bool) → is_alone w.protocol.state.mode ≡ alone → LeaveInOrder s (at_once alone (Arrive n ∷ [])) []
      admit-lets c n false is = none_out
      admit-lets c n true is = λ d. (refl, All-nil NotGivenUp)

  pub answers_drop_what_they_may : (event : Event) (reply : Reply) (new : Protocol) → AnswersEvent w.start w.protocol event reply new
      → Drops w.start w.protocol event reply new
  answers_drop_what_they_may event reply new a =
      let grown = answers_end w.start w.protocol.state w.protocol.lines _ drops_all event reply new.state a.0 in
      let out = answers_end w.start w.protocol.state w.protocol.lines _ lets_all event reply new.state a.0 in
      let same : out.0 ≡ grown.0 = append_cancel_left w.protocol.state.journal.history out.0 grown.0 (sym out.1 ∙ grown.1) in
      let lets = subst (λ es. LetsOut w.start w.protocol.state event reply es) same out.2 in
      record { answers = a; entries = grown.0; grows = grown.1; only = grown.2; lets = lets }
