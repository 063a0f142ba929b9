-- So many steps of the guest: what they leave, and what the protocol answers to them.
use Rattle.std.proofs.Common.{rules, ◌≡◌, ℕ, zero, suc, ◌+◌, ◌<◌, ◌≤◌, List, [], ◌∷◌, ◌++◌, length, replicate, refl, sym, ap, ◌∙◌, subst}
use Rattle.std.proofs.Common.{arith, append_assoc, Bool, true, false, cond, Option, None, Some, Result, Ok, Err, OnErr}
use Rattle.std.proofs.{lemmas.Bool.{le-ltb, Decides.nat_tests}, lemmas.List.{append-nil, length-append, length-replicate}}
use Rattle.std.specs.Prelude.{nat_lt, ◌&&◌}
use Rattle.guest_rules.specs.{Guest.Guest, Step.{next, sent}, Runs.{after_steps, sent_in, marked_in, HaveRoom}}
use Rattle.frame_ports.specs.Limits.{number_limit}
use Rattle.pair_history.specs.{Entries.{Frame, Ran}, HistoryState.HistoryState}
use Rattle.pair_history.specs.Moves.{Steps, guest_along, frames_along}
use Rattle.pair_record.specs.{declared.event.Refusal.Refusal, declared.event.Refusal.TheVariants.{Stopped, CutNeeded, Exhausted}}
use Rattle.pair_record.specs.{Journal.{all_entries, with_running, with_moves}, Limits.lone_step_entries}
use Rattle.pair_core.specs.Invariant.{Holds, HoldsAmid}
use Rattle.pair_record.specs.Modes.{is_stopped, is_alone}
use Rattle.pair_core.specs.{Nodes.after_run, Pair.Pair}
use Rattle.pair_record.specs.Protocol.{step_outcome, outbox_of, step_room, step_entries, Record, Outcome, first_refusal, or_else, refused}
use Rattle.pair_record.specs.{GuestActs.frame_after_step, Protocol.{shown_at, live_at, step_refusals, step_done}, Tables.frames_run_out}
use Rattle.pair_core.specs.Answering.{step_reply}
use Rattle.pair_core.specs.Runs.{goes_on, steps_outcome, with_steps}
use Rattle.pair_record.specs.Accords.{left_now}
use Rattle.pair_core.specs.laws.{Consistent.live_is, Events.{moves_stand, two_hold}, Nodes.{shape-after_steps, base-after_run}}
use Rattle.pair_record.specs.Joined.{length-all}
use Rattle.std.proofs.lemmas.Bool.{lt-leb}
use Rattle.pair_history.specs.laws.Moves.{entries-steps, can-steps, left-steps, guest_along-append, frames_along-append}
use Rattle.pair_core.specs.laws.Outcomes.{done_if_none_refuses, step_sees_the_pair}
use Rattle.pair_record.specs.declared.event.Reply.TheVariants as replies

-- Runs of the guest alone

none-marked : (g : Guest) (ds : List ℕ) → marked_in 0 g ds ≡ ds
unfolding marked_in
none-marked g ds = refl

-- the last of several steps has room, and so have those before it
room-last : (n : ℕ) (g : Guest) (o : List Frame) → HaveRoom (suc n) g o → length (o ++ sent_in n g) ≤ 192
unfolding sent_in HaveRoom
room-last zero g o room = subst (λ (x : List Frame). length x ≤ 192) (sym (append-nil o)) room.0
room-last (suc n) g o room = search (arith, rules, append_assoc, room-last n (next g) (o ++ sent g) room.1)

room-before : (n : ℕ) (g : Guest) (o : List Frame) → HaveRoom (suc n) g o → HaveRoom n g o
unfolding HaveRoom
room-before zero g o room = tt
room-before (suc n) g o room = (room.0, room-before n (next g) (o ++ sent g) room.1)

-- They are moves

pub guest-steps : (n : ℕ) (g : Guest) → after_steps n g ≡ guest_along g (replicate n Steps)
unfolding after_steps
guest-steps zero g = refl
guest-steps (suc n) g = guest-steps n (next g)

pub frames-steps : (n : ℕ) (g : Guest) → sent_in n g ≡ frames_along g (replicate n Steps)
unfolding sent_in
frames-steps zero g = refl
frames-steps (suc n) g = ap (λ t. sent g ++ t) (frames-steps n (next g))

pub replicate-last : {A : Type 0} (x : A) (n : ℕ) → replicate (suc n) x ≡ replicate n x ++ x ∷ []
replicate-last x zero = refl
replicate-last x (suc n) = ap (λ t. x ∷ t) (replicate-last x n)

-- so the last of them follows those before it
pub last-step : (n : ℕ) (g : Guest) → after_steps (suc n) g ≡ next (after_steps n g)
last-step n g =
    guest-steps (suc n) g
    ∙ ap (guest_along g) (replicate-last Steps n)
    ∙ guest_along-append g (replicate n Steps) (Steps ∷ [])
    ∙ ap next (sym (guest-steps n g))

pub last-frames : (n : ℕ) (g : Guest) → sent_in (suc n) g ≡ sent_in n g ++ sent (after_steps n g)
last-frames n g =
    frames-steps (suc n) g
    ∙ ap (frames_along g) (replicate-last Steps n)
    ∙ frames_along-append g (replicate n Steps) (Steps ∷ [])
    ∙ (λ i. sym (frames-steps n g) i ++ append-nil (sent (sym (guest-steps n g) i)) i)

-- What they leave

pub steps_stand : (n : ℕ) (w : Pair) → Holds w → HoldsAmid (with_steps n w)
steps_stand n w h =
    let ws = left_now w.start w.protocol.state w.ports h.accords in
    moves_stand w h (replicate n Steps) (after_run n w.nodes).live
    (guest-steps n w.nodes.live.guest)
    (ap (λ t. w.nodes.live.outbox ++ t) (frames-steps n w.nodes.live.guest))
    (λ s k. shape-after_steps n s w.nodes.live.guest k)
    (λ b k. base-after_run n w.nodes b k)
    (replicate n Ran) w.ports.inboxes (entries-steps n)
    (can-steps n ws)
    (rw (left-steps n ws) h.accords.clients)

pub steps_hold : (n : ℕ) (w : Pair) → is_alone w.protocol.state.mode ≡ false → Holds w → Holds (with_steps n w)
steps_hold n w two h = two_hold (with_steps n w) two (steps_stand n w h)

pub with_no_steps : (w : Pair) → with_steps 0 w ≡ w
with_no_steps w = search (arith, rules, append-nil, guest-steps, none-marked, frames-steps)

-- each step is one entry more
pub steps-counted : (n : ℕ) (w : Pair) → length (all_entries (with_steps n w).protocol.state.journal) ≡ length (all_entries w.protocol.state.journal)
    + n
steps-counted n w = search (arith, rules, length-all, length-append, length-replicate)

-- What is answered

pub no-steps-answered : (start : HistoryState) (r : Record) → steps_outcome start r 0 ≡ (replies.Steps (live_at start r).guest.steps, r)
unfolding steps_outcome
no-steps-answered start r = refl

pub more-answered :
    (start : HistoryState) (r : Record) (n : ℕ)
    → steps_outcome start r (suc n) ≡ goes_on start (steps_outcome start r n).0 (steps_outcome start r n).1
unfolding steps_outcome
more-answered start r n = refl

-- one step alone is the protocol's
pub one-step-answered : (start : HistoryState) (r : Record) → steps_outcome start r 1 ≡ step_outcome start r
unfolding steps_outcome
one-step-answered start r = refl

-- where the guest runs, and the outbox and the history have room, no row applies
none_applies : (r : Record) (outbox : List Frame) → is_stopped r.mode ≡ false → length outbox ≤ 192
    → length (all_entries r.journal) + step_room r.mode < number_limit → (is_alone r.mode && frames_run_out r) ≡ false
    → first_refusal (step_refusals outbox r) ≡ None
none_applies r outbox runs few room numbers =
    λ i. cond (runs i) (Some Stopped) (cond (le-ltb 192 (length outbox) few i) (Some CutNeeded)
    (cond (lt-leb number_limit (length (all_entries r.journal) + step_room r.mode) room i)
    (Some Exhausted) (cond (numbers i) (Some Exhausted) None)))

pub step_is_done : (w : Pair) → Holds w → is_stopped w.protocol.state.mode ≡ false → length w.nodes.live.outbox ≤ 192
    → length (all_entries w.protocol.state.journal) + step_room w.protocol.state.mode < number_limit
    → (is_alone w.protocol.state.mode && frames_run_out w.protocol.state) ≡ false
    → step_done w.ports.boxes (sent w.nodes.live.guest) (next w.nodes.live.guest).steps w.protocol.state ≡ step_outcome w.start w.protocol.state
step_is_done w h runs few room numbers =
    let g = w.nodes.live.guest in
    done_if_none_refuses w.protocol.state (step_refusals w.nodes.live.outbox w.protocol.state)
    (step_done w.ports.boxes (sent g) (next g).steps w.protocol.state) (none_applies w.protocol.state w.nodes.live.outbox runs few room numbers)
    ∙ step_sees_the_pair w h

-- in a pair a step is kept
step_kept : (boxes : List (List Frame)) (fs : List Frame) (steps : ℕ) (r : Record) → is_alone r.mode ≡ false
    → (replies.Steps steps, record r { journal = with_running r.journal (Ran ∷ []) }) ≡ step_done boxes fs steps r
step_kept boxes fs steps r two =
    λ i. (
      replies.Steps steps,
      record r {
        journal = with_moves (sym two i) r.journal (step_entries (sym two i) boxes fs);
        next_frame = frame_after_step (sym two i) fs r.next_frame;
      },
    )

pub steps_answered :
    (n : ℕ) (w : Pair) → Holds w → is_alone w.protocol.state.mode ≡ false → (0 < n → is_stopped w.protocol.state.mode ≡ false)
    → length (all_entries w.protocol.state.journal) + n < number_limit
    → HaveRoom n w.nodes.live.guest w.nodes.live.outbox
    → (replies.Steps (after_steps n w.nodes.live.guest).steps, (with_steps n w).protocol.state) ≡ steps_outcome w.start w.protocol.state n
steps_answered zero w h two runs fits room =
    ap (λ (g : Guest). (replies.Steps g.steps, (with_steps 0 w).protocol.state)) (guest-steps 0 w.nodes.live.guest ∙ sym (live_is w h))
    ∙ ap (λ (v : Pair). (replies.Steps (live_at w.start w.protocol.state).guest.steps, v.protocol.state)) (with_no_steps w)
    ∙ sym (no-steps-answered w.start w.protocol.state)
steps_answered (suc n) w h two runs fits room =
    let v = with_steps n w in
    let g = w.nodes.live.guest in
    let ran = w.protocol.state.journal.running in
    let e = steps-counted n w in
    let before = steps_answered n w h two (λ l. runs (omega arith)) (omega arith) (room-before n g w.nodes.live.outbox room) in
    (λ i. (
      replies.Steps (last-step n g i).steps,
      record w.protocol.state {
        journal = record w.protocol.state.journal {
          running = (ap (λ t. ran ++ t) (replicate-last Ran n) ∙ sym (append_assoc ran (replicate n Ran) (Ran ∷ []))) i;
        };
      },
    ))
    ∙ step_kept w.ports.boxes (sent (after_steps n g)) (next (after_steps n g)).steps v.protocol.state two
    ∙ step_is_done v (steps_hold n w two h) (runs (omega arith)) (room-last n g w.nodes.live.outbox room)
    (let one : step_room w.protocol.state.mode ≡ 1 = ap (λ (b : Bool). cond b lone_step_entries 1) two in omega arith)
    (ap (λ (b : Bool). b && frames_run_out v.protocol.state) two)
    ∙ ap (λ (o : Outcome). goes_on w.start o.0 o.1) before
    ∙ sym (more-answered w.start w.protocol.state n)

-- the first refusal is the answer to all steps that were to follow
module _ (start : HistoryState) (r r' : Record) (n k : ℕ) (why : Refusal)
    (made : (replies.Steps k, r') ≡ steps_outcome start r n)
    (ends : refused r' why ≡ step_outcome start r') where
  after : (m : ℕ) → n ≡ m → refused r' why ≡ steps_outcome start r (suc m)
  after m e = ends ∙ ap (λ (o : Outcome). goes_on start o.0 o.1) (made ∙ ap (steps_outcome start r) e) ∙ sym (more-answered start r m)

  longer : (m : ℕ) → refused r' why ≡ steps_outcome start r m → refused r' why ≡ steps_outcome start r (suc m)
  longer m e = ap (λ (o : Outcome). goes_on start o.0 o.1) e ∙ sym (more-answered start r m)

  pub refusal_answered : (m : ℕ) → n < m → refused r' why ≡ steps_outcome start r m
  refusal_answered zero l = absurd (omega arith)
  refusal_answered (suc m) l = by_test m l (nat_lt n m) refl (λ below. refusal_answered m below)
    where
      is_below : (a b : ℕ) → nat_lt a b ≡ true → a < b
      is_below a b e = grind (arith, nat_tests)

      is_from : (a b : ℕ) → nat_lt a b ≡ false → b ≤ a
      is_from a b e = grind (arith, nat_tests)

      by_test : (m : ℕ) → n < suc m → (t : Bool) → nat_lt n m ≡ t → (n < m → refused r' why ≡ steps_outcome start r m)
          → refused r' why ≡ steps_outcome start r (suc m)
      by_test m l true e more = longer m (more (is_below n m e))
      by_test m l false e more = let from = is_from n m e in after m (omega arith)

-- A refused step changes nothing

pub refused_stays : (start : HistoryState) (r r' : Record) (why : Refusal) → refused r' why ≡ step_outcome start r → r' ≡ r
refused_stays start r r' why e = by_refusal (first_refusal (step_refusals (outbox_of start r) r)) e
  where
    by_refusal : (o : Option Refusal) → refused r' why ≡ or_else o (refused r)
        (step_done (shown_at start r).boxes (sent (live_at start r).guest) (next (live_at start r).guest).steps r) → r' ≡ r
    by_refusal (Some x) e = ap (λ (o : Outcome). o.1) e
    by_refusal None e = search (arith, rules)

none-made : (n : ℕ) (w : Pair) → (with_steps n w).protocol.state ≡ w.protocol.state → n ≡ 0
none-made n w e =
    let c = steps-counted n w in
    let same = ap (λ (r : Record). length (all_entries r.journal)) e in
    omega arith

pub refused_step :
    (w v : Pair) (answer : Result ℕ Refusal) → (step_reply answer, v.protocol.state) ≡ step_outcome w.start w.protocol.state
    → (n : ℕ) → v ≡ with_steps n w → OnErr answer (v ≡ w)
refused_step w v (Ok k) e n is = tt
refused_step w v (Err why) e n is = search (arith, rules, none-made, refused_stays, with_no_steps)
