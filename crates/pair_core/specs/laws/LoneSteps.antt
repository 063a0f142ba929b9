-- What the steps of a node that is alone leave, and what the protocol answers to them: what a step sends lands at once.
use Rattle.std.proofs.Common.{rules, ◌≡◌, ℕ, zero, suc, ◌+◌, ◌-◌, ◌<◌, List, [], ◌∷◌, ◌++◌, length, replicate, refl, sym, ap, ◌∙◌, subst}
use Rattle.std.proofs.Common.{arith, append_assoc, Bool, true, false, cond, inl, inr, Result, Ok, Err}
use Rattle.std.proofs.lemmas.List.{append-nil, length-append, length-replicate}
use Rattle.guest_rules.specs.{Guest.Guest, Step.{next, sent}, Runs.{after_steps, sent_in}}
use Rattle.std.specs.Prelude.{nat_lt, ◌&&◌}
use Rattle.frame_ports.specs.{Addresses.targets_of, Limits.number_limit}
use Rattle.pair_history.specs.{Entries.{Frame, Ran}, HistoryState.HistoryState, Landings.landings}
use Rattle.pair_record.specs.{declared.event.Event.TheVariants.Step, Limits.{lone_step_entries, last_frame}}
use Rattle.pair_record.specs.{Journal.{all_entries, with_history}, Modes.is_alone, Record.ports_landed, Tables.frames_run_out}
use Rattle.pair_core.specs.{Invariant.{Holds, KeepsNothing}, Nodes.{after_run, with_sent_off}}
use Rattle.pair_record.specs.Protocol.{Record, Outcome, step_done, step_outcome, step_room}
use Rattle.pair_record.specs.declared.event.Refusal.{Refusal}
use Rattle.pair_core.specs.{Pair.Pair, Answering.{AnswersEvent, step_reply}, Lines.{Protocol, lines_after}}
use Rattle.pair_core.specs.Runs.{StepsAnswer, goes_on, steps_outcome}
use Rattle.pair_record.specs.laws.Modes.{alone_not_stopped}
use Rattle.pair_core.specs.laws.{AllLands.at_once_holds, Consistent.{live_is, alone_is}}
use Rattle.pair_core.specs.laws.Steps.{steps_stand, step_is_done, no-steps-answered, more-answered, one-step-answered}
use Rattle.pair_core.specs.laws.Steps.{guest-steps, frames-steps, last-step, last-frames, replicate-last}
use Rattle.pair_record.specs.declared.event.Reply.TheVariants as replies

both_empty : {A : Type 0} (xs ys : List A) → xs ++ ys ≡ [] → (xs ≡ []) × (ys ≡ [])
both_empty [] ys e = (refl, e)
both_empty (x ∷ xs) ys e = absurd (cc)

module _ (w : Pair) where
  abbrev boxes : List (List Frame)
  boxes = w.ports.boxes

  -- the pair after n steps in which these frames were sent, and landed
  abbrev pub after_lone_steps : ℕ → List Frame → Pair
  after_lone_steps n fs = record w {
    protocol = record w.protocol {
      state = record w.protocol.state {
        journal = with_history w.protocol.state.journal (replicate n Ran ++ landings boxes (targets_of (length boxes) fs));
        next_frame = w.protocol.state.next_frame + length fs;
      };
    };
    ports = ports_landed w.ports w.protocol.state.next_frame fs;
    nodes = with_sent_off (after_run n w.nodes);
  }

  module _ (h : Holds w) (k : KeepsNothing w.protocol.state) (lone : is_alone w.protocol.state.mode ≡ true) where
    none : w.nodes.live.outbox ≡ []
    none = (alone_is w h k).outbox

    pub lone_steps_hold : (n : ℕ) → Holds (after_lone_steps n (sent_in n w.nodes.live.guest))
    lone_steps_hold n =
        let live = (after_run n w.nodes).live in
        let fs = sent_in n w.nodes.live.guest in
        let all : live.outbox ≡ fs = ap (λ (t : List Frame). t ++ fs) none in
        rw (← all) (at_once_holds w k lone (replicate n Ran) live w.ports.inboxes (steps_stand n w h))

    -- quiet steps: none of them sends a frame
    abbrev quiet : ℕ → Pair
    quiet n = after_lone_steps n []

    quiet-holds : (n : ℕ) → sent_in n w.nodes.live.guest ≡ [] → Holds (quiet n)
    quiet-holds n e = subst (λ (x : List Frame). Holds (after_lone_steps n x)) e (lone_steps_hold n)

    -- one more step, after quiet ones
    module _ (n : ℕ) (silent : sent_in n w.nodes.live.guest ≡ [])
        (fits : length (all_entries w.protocol.state.journal) + (n + 1025) < number_limit)
        (numbers : frames_run_out w.protocol.state ≡ false) where
      abbrev g : Guest
      g = after_steps n w.nodes.live.guest

      counted : length (all_entries (quiet n).protocol.state.journal) ≡ length (all_entries w.protocol.state.journal) + n
      counted = search (arith, rules, length-append, length-replicate)

      quiet_numbers : (is_alone w.protocol.state.mode && frames_run_out (quiet n).protocol.state) ≡ false
      quiet_numbers =
          let same : w.protocol.state.next_frame + 0 ≡ w.protocol.state.next_frame = omega arith in
          (λ i. lone i && nat_lt last_frame (same i)) ∙ numbers

      step_next : step_done boxes (sent g) (next g).steps (quiet n).protocol.state ≡ step_outcome w.start (quiet n).protocol.state
      step_next =
          let c = counted in
          let room : step_room w.protocol.state.mode ≡ 1025 = ap (λ (b : Bool). cond b lone_step_entries 1) lone in
          step_is_done (quiet n) (quiet-holds n silent) (alone_not_stopped w.protocol.state.mode lone) (omega arith) (omega arith) quiet_numbers

      step_makes : (replies.Steps (after_steps (suc n) w.nodes.live.guest).steps, (after_lone_steps (suc n) (sent g)).protocol.state)
          ≡ step_done boxes (sent g) (next g).steps (quiet n).protocol.state
      step_makes = search (arith, rules, last-step, append-nil, append_assoc, replicate-last)

      one_more : (replies.Steps g.steps, (quiet n).protocol.state) ≡ steps_outcome w.start w.protocol.state n
          → (replies.Steps (after_steps (suc n) w.nodes.live.guest).steps, (after_lone_steps (suc n) (sent g)).protocol.state)
          ≡ steps_outcome w.start w.protocol.state (suc n)
      one_more before =
          step_makes ∙ step_next ∙ ap (λ (o : Outcome). goes_on w.start o.0 o.1) before ∙ sym (more-answered w.start w.protocol.state n)

    -- so many quiet steps
    quiet_answered : (n : ℕ) → sent_in n w.nodes.live.guest ≡ [] → length (all_entries w.protocol.state.journal) + (n + 1024) < number_limit
        → frames_run_out w.protocol.state ≡ false
        → (replies.Steps (after_steps n w.nodes.live.guest).steps, (quiet n).protocol.state) ≡ steps_outcome w.start w.protocol.state n
    quiet_answered zero e fits numbers = search (arith, rules, append-nil, live_is, guest-steps, no-steps-answered)
    quiet_answered (suc n) e fits numbers =
        let parts = both_empty (sent_in n w.nodes.live.guest) (sent (after_steps n w.nodes.live.guest))
        (sym (last-frames n w.nodes.live.guest) ∙ e) in
        let before = quiet_answered n parts.0 (omega arith) numbers in
        subst
        (λ (fs : List Frame). (replies.Steps (after_steps (suc n) w.nodes.live.guest).steps, (after_lone_steps (suc n) fs).protocol.state)
        ≡ steps_outcome w.start w.protocol.state (suc n)) parts.1 (one_more n parts.0 (omega arith) numbers before)

    -- so many steps of which only the last sends frames
    pub lone_steps_answered : (n : ℕ) → sent_in (n - 1) w.nodes.live.guest ≡ []
        → length (all_entries w.protocol.state.journal) + (n + 1024) < number_limit → frames_run_out w.protocol.state ≡ false
        → (replies.Steps (after_steps n w.nodes.live.guest).steps, (after_lone_steps n (sent_in n w.nodes.live.guest)).protocol.state)
        ≡ steps_outcome w.start w.protocol.state n
    lone_steps_answered zero e fits numbers = search (arith, rules, frames-steps, quiet_answered)
    lone_steps_answered (suc n) e fits numbers = search (arith, rules, one_more, quiet_answered, last-frames)

-- steps after steps
module _ (start : HistoryState) (r r' : Record) (m k : ℕ) (made : (replies.Steps k, r') ≡ steps_outcome start r m) where
  pub steps_after : (n p : ℕ) → p ≡ n + m → steps_outcome start r' (suc n) ≡ steps_outcome start r (suc p)
  steps_after zero p e =
      let same : m ≡ p = omega arith in
      more-answered start r' 0 ∙ ap (λ (o : Outcome). goes_on start o.0 o.1) (no-steps-answered start r')
      ∙ ap (λ (o : Outcome). goes_on start o.0 o.1) (made ∙ ap (steps_outcome start r) same) ∙ sym (more-answered start r p)
  steps_after (suc n) zero e = absurd (omega arith)
  steps_after (suc n) (suc p) e =
      more-answered start r' (suc n) ∙ ap (λ (o : Outcome). goes_on start o.0 o.1) (steps_after n p (omega arith))
      ∙ sym (more-answered start r (suc p))

  pub steps_join : (n total : ℕ) → 0 < n → total ≡ m + n → steps_outcome start r' n ≡ steps_outcome start r total
  steps_join zero total l e = absurd (omega arith)
  steps_join (suc n) zero l e = absurd (omega arith)
  steps_join (suc n) (suc p) l e = steps_after n p (omega arith)

-- ONE STEP, as an event

-- and nothing is sent on a line
lines_stay : (old new : Protocol) (answer : Result ℕ Refusal) → new.lines ≡ old.lines → new.lines ≡ lines_after old (step_reply answer)
lines_stay old new (Ok count) same = same
lines_stay old new (Err why) same = same

module _ (start : HistoryState) (old new : Protocol) (answer : Result ℕ Refusal) where
  pub paired_step_answered : (step_reply answer, new.state) ≡ steps_outcome start old.state 1 → new.lines ≡ old.lines
      → AnswersEvent start old Step (step_reply answer) new
  paired_step_answered e same = (inl (e ∙ one-step-answered start old.state), lines_stay old new answer same)

  pub lone_step_answered : StepsAnswer start old 1 (step_reply answer) new → AnswersEvent start old Step (step_reply answer) new
  lone_step_answered (inl e, same) = paired_step_answered e same
  lone_step_answered (inr k, same) =
      let made = k.2 in
      let less = made.1 in
      let first : made.0 ≡ 0 = omega arith in
      let stays : new.state ≡ old.state =
      ap (λ (o : Outcome). o.1) (made.3 ∙ ap (steps_outcome start old.state) first ∙ no-steps-answered start old.state) in
      (inr (rw (← stays) made.4, k.1, stays), lines_stay old new answer same)
