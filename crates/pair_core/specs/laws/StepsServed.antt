-- Many steps in one call are as many events to the clients, up to the first that is refused.
use Rattle.std.proofs.Common.{arith, ◌≡◌, ℕ, zero, suc, ◌+◌, ◌<◌, List, [], ◌∷◌, ◌++◌, length, replicate, refl, sym, ap, ◌∙◌}
use Rattle.std.proofs.Common.{subst, append_assoc, Bool, true, false, None, inl, inr}
use Rattle.std.proofs.lemmas.List.{append-nil, length-append, replicate-append-replicate}
use Rattle.std.proofs.lemmas.List.Elements.{All-nil, All-cons, All-append}
use Rattle.std.specs.Prelude.{All}
use Rattle.guest_rules.specs.{Guest.Guest, Step.{next, sent}}
use Rattle.frame_ports.specs.{Addresses.targets_of, Lands.lands}
use Rattle.output_gate.specs.Epochs.{frames_of}
use Rattle.pair_history.specs.{Entries.{Ran}, HistoryState.{HistoryState, after, at, Legal}}
use Rattle.pair_history.specs.{Landings.{landings, BoxesFit}, Leaving.{LeaveInOrder, NotGivenUp}}
use Rattle.pair_history.specs.laws.Histories.{at-append, Legal-append}
use Rattle.pair_history.specs.laws.Landings.{BoxesFit-lands, AllClients-targets, landings-land, AllLand}
use Rattle.memory_wanted.specs.Wanted.{wanted}
use Rattle.pair_core.specs.{Answering.{AnswersIn}, Calls.Moment, Drops.Drops, Lines.{Protocol, no_packets}}
use Rattle.pair_record.specs.{declared.event.Event.TheVariants.Step, declared.event.Refusal.Refusal}
use Rattle.pair_record.specs.declared.event.Refusal.TheVariants.{NoMemory}
use Rattle.pair_record.specs.declared.event.Reply.{Reply}
use Rattle.pair_record.specs.{Journal.{joined, kept_entries, all_entries, with_moves}, Modes.is_alone}
use Rattle.pair_core.specs.Pair.{Pair, IsConsistent}
use Rattle.pair_record.specs.Protocol.{Record, Outcome, first_refusal, refused, shown_at, live_at, step_refusals, outbox_of, step_entries}
use Rattle.pair_record.specs.{GuestActs.frame_after_step, Protocol.{step_done, step_outcome}}
use Rattle.pair_core.specs.{Runs.{StepsAnswerIn, goes_on, steps_outcome}, Service.{moment, Serves, HasServed, is_step, ServesSteps}}
use Rattle.pair_core.specs.laws.Consistent.{lone}
use Rattle.pair_core.specs.laws.Along.{along-more}
use Rattle.pair_core.specs.laws.{Ends.by_table, Serves.one_event_serves_at}
use Rattle.pair_core.specs.laws.{Steps.{no-steps-answered, more-answered, refused_stays}, Tells.OfGuest}
use Rattle.pair_record.specs.declared.event.Reply.TheVariants as replies

module _ (start : HistoryState) where
  -- a record on whose lines nothing was sent: steps look at none
  abbrev bare : Record → Protocol
  bare r = record { state = r; lines = no_packets }

  abbrev moment_at : Record → Moment
  moment_at r = record { history = r.journal.history; sealed = r.journal.sealed; running = r.journal.running; guest = (live_at start r).guest }

  -- what a step keeps true of a record
  record IsGood (r : Record) : Type 0 where
    legal : Legal start (all_entries r.journal)
    moves : All OfGuest (kept_entries r.journal)
    fit : BoxesFit (shown_at start r).boxes
    lone : is_alone r.mode ≡ true → (kept_entries r.journal ≡ []) × ((shown_at start r).out ≡ [])

  -- ONE STEP

  -- what a step that is made adds
  record Made (r : Record) (k : ℕ) (new : Record) : Type 0 where
    serves : Serves start (moment_at r) Step (replies.Steps k) (moment_at new)
    good : IsGood new
    count : (live_at start new).guest.steps ≡ k

  module _ (r : Record) (h : IsGood r) where
    abbrev s : HistoryState
    s = shown_at start r

    abbrev g : Guest
    g = (live_at start r).guest

    abbrev done : Bool → Record
    done alone = record r {
      journal = with_moves alone r.journal (step_entries alone s.boxes (sent g));
      next_frame = frame_after_step alone (sent g) r.next_frame;
    }

    none_out : LeaveInOrder s [] []
    none_out c = (refl, All-nil NotGivenUp)

    one_kept : is_alone r.mode ≡ false → (replies.Steps (next g).steps, done false) ≡ step_outcome start r
        → Made r (next g).steps (done false)
    one_kept two e =
        let all = all_entries r.journal in
        let kept = kept_entries r.journal in
        let runs : kept_entries (done false).journal ≡ kept ++ Ran ∷ [] =
        sym (append_assoc (joined r.journal.sealed) r.journal.running (Ran ∷ [])) in
        let whole : all_entries (done false).journal ≡ all ++ Ran ∷ [] =
        ap (λ t. r.journal.history ++ t) runs ∙ sym (append_assoc r.journal.history kept (Ran ∷ [])) in
        let legal : Legal start (all_entries (done false).journal) =
        subst (Legal start) (sym whole) (Legal-append start all (Ran ∷ []) h.legal (tt, tt)) in
        let moves : All OfGuest (kept_entries (done false).journal) =
        subst (All OfGuest) (sym runs) (All-append OfGuest kept (Ran ∷ []) h.moves (All-cons OfGuest Ran [] refl (All-nil OfGuest))) in
        let drops : Drops start (bare r) Step (replies.Steps (next g).steps) (bare (done false)) =
        record { answers = (inl e, refl); entries = []; grows = sym (append-nil r.journal.history); only = tt; lets = λ two. none_out } in
        record {
          serves = one_event_serves_at start (bare r) (bare (done false)) g _ Step (replies.Steps (next g).steps) drops h.moves (λ a. (h.lone a).0) legal moves refl;
          good = record { legal = legal; moves = moves; fit = h.fit; lone = λ a. absurd (cc) };
          count = ap (λ t. (at start t).guest.steps) whole ∙ ap (λ (t : HistoryState). t.guest.steps) (at-append start all (Ran ∷ []));
        }

    one_alone : is_alone r.mode ≡ true → (replies.Steps (next g).steps, done true) ≡ step_outcome start r
        → Made r (next g).steps (done true)
    one_alone one e =
        let j = r.journal in
        let b = s.boxes in
        let ps = targets_of (length b) (sent g) in
        let es = landings b ps in
        let none = (h.lone one).0 in
        let all : all_entries j ≡ j.history = ap (λ t. j.history ++ t) none ∙ append-nil j.history in
        let same : live_at start r ≡ s = ap (at start) all in
        let t = after s Ran in
        let out : t.out ≡ ps ++ [] =
        (λ i. (h.lone one).1 i ++ targets_of (length b) (sent (sym same i).guest)) ∙ sym (append-nil ps) in
        let land : AllLand t ps [] es = landings-land t ps [] out (AllClients-targets (length b) (sent g)) h.fit in
        let history : Legal start (j.history ++ Ran ∷ es) =
        Legal-append start j.history (Ran ∷ es) (subst (Legal start) all h.legal) (tt, land.0) in
        let whole : all_entries (done true).journal ≡ j.history ++ Ran ∷ es =
        ap (λ k. (j.history ++ Ran ∷ es) ++ k) none ∙ append-nil (j.history ++ Ran ∷ es) in
        let legal : Legal start (all_entries (done true).journal) = subst (Legal start) (sym whole) history in
        let drops : Drops start (bare r) Step (replies.Steps (next g).steps) (bare (done true)) =
        record { answers = (inl e, refl); entries = Ran ∷ es; grows = refl; only = land.2; lets = λ two. absurd (cc) } in
        let shown : shown_at start (done true) ≡ record t { out = []; boxes = lands b ps } =
        at-append start j.history (Ran ∷ es) ∙ land.1 in
        record {
          serves = one_event_serves_at start (bare r) (bare (done true)) g _ Step (replies.Steps (next g).steps) drops h.moves (λ a. (h.lone a).0) legal h.moves refl;
          good = record {
            legal = legal;
            moves = h.moves;
            fit = subst BoxesFit (ap (λ (x : HistoryState). x.boxes) (sym shown)) (BoxesFit-lands b ps h.fit);
            lone = λ a. (none, ap (λ (x : HistoryState). x.out) shown);
          };
          count =
              ap (λ x. (at start x).guest.steps) whole
              ∙ ap (λ (x : HistoryState). x.guest.steps) shown
              ∙ ap (λ (x : HistoryState). (next x.guest).steps) (sym same);
        }

    -- of the answer of a step
    abbrev MadeAt : Reply → Record → Type 0
    MadeAt (replies.Steps k) new = Made r k new
    MadeAt other new = ⊥

    one_made : (k : ℕ) (new : Record) → (replies.Steps k, new) ≡ step_outcome start r → Made r k new
    one_made k new e =
        by_table Leaves (first_refusal (step_refusals (outbox_of start r) r)) (refused r) (step_done s.boxes (sent g) (next g).steps r)
        (λ why e. absurd (let x : replies.Steps k ≡ replies.Refused why = ap (λ (o : Outcome). o.0) e in cc)) (λ none. by_mode (is_alone r.mode) refl none) e e
      where
        Leaves : Outcome → Type 0
        Leaves o = (replies.Steps k, new) ≡ o → (replies.Steps k, new) ≡ step_outcome start r → Made r k new

        is_done : (alone : Bool) → is_alone r.mode ≡ alone
            → step_done s.boxes (sent g) (next g).steps r ≡ (replies.Steps (next g).steps, done alone)
        is_done alone is = λ i. (
          replies.Steps (next g).steps,
          record r {
            journal = with_moves (is i) r.journal (step_entries (is i) s.boxes (sent g));
            next_frame = frame_after_step (is i) (sent g) r.next_frame;
          },
        )

        by_mode : (alone : Bool) → is_alone r.mode ≡ alone → first_refusal (step_refusals (outbox_of start r) r) ≡ None
            → Leaves (step_done s.boxes (sent g) (next g).steps r)
        by_mode false is none d e =
            let all : (replies.Steps k, new) ≡ (replies.Steps (next g).steps, done false) = d ∙ is_done false is in
            subst (λ (o : Outcome). MadeAt o.0 o.1) (sym all) (one_kept is (sym all ∙ e))
        by_mode true is none d e =
            let all : (replies.Steps k, new) ≡ (replies.Steps (next g).steps, done true) = d ∙ is_done true is in
            subst (λ (o : Outcome). MadeAt o.0 o.1) (sym all) (one_alone is (sym all ∙ e))

    -- a step that is refused changes nothing
    one_refused : (why : Refusal) → AnswersIn start r None Step (replies.Refused why) r
        → Serves start (moment_at r) Step (replies.Refused why) (moment_at r)
    one_refused why a =
        let drops : Drops start (bare r) Step (replies.Refused why) (bare r) =
        record { answers = (a, refl); entries = []; grows = sym (append-nil r.journal.history); only = tt; lets = λ two. none_out } in
        one_event_serves_at start (bare r) (bare r) g g Step (replies.Refused why) drops h.moves (λ a. (h.lone a).0) h.legal h.moves refl

  -- SO MANY STEPS

  -- what they add where all are made
  record AllMade (r : Record) (n k : ℕ) (new : Record) : Type 0 where
    made : List Reply
    count : length made ≡ n
    are_steps : All (λ x. is_step x ≡ true) made
    run : HasServed start (moment_at r) (replicate n Step) made (moment_at new)
    good : IsGood new
    steps : (live_at start new).guest.steps ≡ k

  none_made : (r : Record) → IsGood r → (k : ℕ) (new : Record) → (replies.Steps k, new) ≡ steps_outcome start r 0 → AllMade r 0 k new
  none_made r h k new e =
      let same : new ≡ r = ap (λ (o : Outcome). o.1) (e ∙ no-steps-answered start r) in
      record {
        made = [];
        count = refl;
        are_steps = All-nil _;
        run = ap moment_at same;
        good = subst IsGood (sym same) h;
        steps = ap (λ (x : Record). (live_at start x).guest.steps) same ∙ told;
      }
    where
      count_of : Reply → ℕ
      count_of (replies.Steps n) = n
      count_of other = 0

      told : (live_at start r).guest.steps ≡ k
      told = ap (λ (o : Outcome). count_of o.0) (sym (no-steps-answered start r) ∙ sym e)

  -- one more, after those
  one_more : (r mid new : Record) (n j k : ℕ) → AllMade r n j mid → Made mid k new → AllMade r (suc n) k new
  one_more r mid new n j k before one =
      record {
        made = before.made ++ replies.Steps k ∷ [];
        count = length-append before.made (replies.Steps k ∷ []) ∙ more before.count;
        are_steps =
            All-append (λ x. is_step x ≡ true) before.made (replies.Steps k ∷ []) before.are_steps
            (All-cons (λ x. is_step x ≡ true) (replies.Steps k) [] refl (All-nil _));
        run =
            subst (λ es. HasServed start (moment_at r) es (before.made ++ replies.Steps k ∷ []) (moment_at new))
            (replicate-append-replicate n 1 Step ∙ ap (λ c. replicate c Step) (more refl))
            (along-more (Serves start) (replicate n Step) before.made (moment_at r) (moment_at mid) (moment_at new) Step (replies.Steps k)
            before.run one.serves);
        good = one.good;
        steps = one.count;
      }
    where
      more : {a : ℕ} → a ≡ n → a + 1 ≡ suc n
      more e = omega arith

  -- the protocol answers steps with their count, or with a refusal
  abbrev IsStepAnswer : Reply → Type 0
  IsStepAnswer (replies.Steps n) = Unit {0}
  IsStepAnswer (replies.Refused why) = Unit {0}
  IsStepAnswer other = ⊥

  step-answer : (r : Record) → IsStepAnswer (step_outcome start r).0
  step-answer r =
      by_table (λ (o : Outcome). IsStepAnswer o.0) (first_refusal (step_refusals (outbox_of start r) r)) (refused r)
      (step_done (shown_at start r).boxes (sent (live_at start r).guest) (next (live_at start r).guest).steps r) (λ why. tt) (λ none. tt)

  steps-answer : (r : Record) (n : ℕ) → IsStepAnswer (steps_outcome start r n).0
  steps-answer r zero = subst (λ (o : Outcome). IsStepAnswer o.0) (sym (no-steps-answered start r)) tt
  steps-answer r (suc n) =
      subst (λ (o : Outcome). IsStepAnswer o.0) (sym (more-answered start r n)) (by_before (steps_outcome start r n) (steps-answer r n))
    where
      by_before : (o : Outcome) → IsStepAnswer o.0 → IsStepAnswer (goes_on start o.0 o.1).0
      by_before (replies.Steps k, mid) a = step-answer mid
      by_before (replies.Refused why, mid) a = tt
      by_before (other, mid) a = absurd a

  all_made : (r : Record) → IsGood r → (n k : ℕ) (new : Record) → (replies.Steps k, new) ≡ steps_outcome start r n → AllMade r n k new
  all_made r h zero k new e = none_made r h k new e
  all_made r h (suc n) k new e =
      by_before (all_made r h n) (steps_outcome start r n) refl (steps-answer r n) (e ∙ more-answered start r n)
    where
      by_before : ((j : ℕ) (mid : Record) → (replies.Steps j, mid) ≡ steps_outcome start r n → AllMade r n j mid)
          → (o : Outcome) → steps_outcome start r n ≡ o → IsStepAnswer o.0 → (replies.Steps k, new) ≡ goes_on start o.0 o.1
          → AllMade r (suc n) k new
      by_before those (replies.Steps j, mid) is a e =
          let before = those j mid (sym is) in
          one_more r mid new n j k before (one_made mid before.good k new e)
      by_before those (replies.Refused why, mid) is a e =
          absurd (let x : replies.Steps k ≡ replies.Refused why = ap (λ (o : Outcome). o.0) e in cc)
      by_before those (other, mid) is a e = absurd a

  -- what they add where one is refused
  record Early (r : Record) (n : ℕ) (why : Refusal) (new : Record) : Type 0 where
    tried : ℕ
    less : tried < n
    count : ℕ
    before : AllMade r tried count new
    refusal : Serves start (moment_at new) Step (replies.Refused why) (moment_at new)

  ends_early : (r : Record) → IsGood r → (n : ℕ) (why : Refusal) (new : Record) → (replies.Refused why, new) ≡ steps_outcome start r n
      → Early r n why new
  ends_early r h zero why new e =
      let s = (live_at start r).guest.steps in
      absurd (let x : replies.Refused why ≡ replies.Steps s = ap (λ (o : Outcome). o.0) (e ∙ no-steps-answered start r) in cc)
  ends_early r h (suc n) why new e =
      by_before (ends_early r h n why new) (steps_outcome start r n) refl (steps-answer r n) (e ∙ more-answered start r n)
    where
      by_before : ((replies.Refused why, new) ≡ steps_outcome start r n → Early r n why new) → (o : Outcome) → steps_outcome start r n ≡ o → IsStepAnswer o.0 → (replies.Refused why, new) ≡ goes_on start o.0 o.1
          → Early r (suc n) why new
      by_before those (replies.Steps j, mid) is a e =
          let before = all_made r h n j mid (sym is) in
          let same : new ≡ mid = refused_stays start mid new why e in
          record {
            tried = n;
            less = omega arith;
            count = j;
            before = subst (λ x. AllMade r n j x) (sym same) before;
            refusal = subst (λ x. Serves start (moment_at x) Step (replies.Refused why) (moment_at x)) (sym same)
                (one_refused mid before.good why (inl (subst (λ x. (replies.Refused why, x) ≡ step_outcome start mid) same e)));
          }
      by_before those (replies.Refused other, mid) is a e =
          let early = those (e ∙ sym is) in
          record {
            tried = early.tried;
            less = let l = early.less in omega arith;
            count = early.count;
            before = early.before;
            refusal = early.refusal;
          }
      by_before those (other, mid) is a e = absurd a

-- So many steps of a pair are that to its clients.
module _ (w v : Pair) (count : ℕ) (reply : Reply) (start : v.start ≡ w.start) (old : IsConsistent w) (new : IsConsistent v) where
  good : IsGood w.start w.protocol.state
  good = record {
    legal = Legal-append w.start w.protocol.state.journal.history (kept_entries w.protocol.state.journal) old.legal old.goes_on;
    moves = old.kept;
    fit = subst BoxesFit old.boxes old.fit;
    lone = λ a.
        let is = lone w.protocol.state.mode w a old.mode in
        let none = is.kept in
        let n = length w.ports.boxes in (
          none,
          ap (λ (s : HistoryState). s.out) (sym (ap (at w.start) (ap (λ t. w.protocol.state.journal.history ++ t) none
              ∙ append-nil w.protocol.state.journal.history)))
              ∙ sym old.owed
              ∙ (λ i. targets_of n (frames_of (is.pending i) ++ is.outbox i)),
        );
  }

  -- the moments of both pairs, as their records say them
  old_moment : moment_at w.start w.protocol.state ≡ moment w
  old_moment = λ i. record {
    history = w.protocol.state.journal.history;
    sealed = w.protocol.state.journal.sealed;
    running = w.protocol.state.journal.running;
    guest = sym old.live i;
  }

  new_moment : moment_at w.start v.protocol.state ≡ moment v
  new_moment = λ i. record {
    history = v.protocol.state.journal.history;
    sealed = v.protocol.state.journal.sealed;
    running = v.protocol.state.journal.running;
    guest = (ap (λ (s : HistoryState). (live_at s v.protocol.state).guest) (sym start) ∙ sym new.live) i;
  }

  -- those that were made, between the moments of both pairs
  run : (n k : ℕ) → (a : AllMade w.start w.protocol.state n k v.protocol.state)
      → HasServed w.start (moment w) (replicate (length a.made) Step) a.made (moment v)
  run n k a =
      subst (λ m. HasServed w.start m (replicate (length a.made) Step) a.made (moment v)) old_moment
      (subst (λ m. HasServed w.start (moment_at w.start w.protocol.state) (replicate (length a.made) Step) a.made m) new_moment
      (subst (λ n. HasServed w.start (moment_at w.start w.protocol.state) (replicate n Step) a.made (moment_at w.start v.protocol.state)) (sym a.count)
      a.run))

  all : (k : ℕ) → AllMade w.start w.protocol.state count k v.protocol.state → ServesSteps w.start (moment w) count (replies.Steps k) (moment v)
  all k a = record {
    made = a.made;
    are_steps = a.are_steps;
    mid = moment v;
    run = run count k a;
    ends = (a.count, refl, ap (λ (m : Moment). m.guest.steps) (sym new_moment) ∙ a.steps);
  }

  early : (n k : ℕ) (why : Refusal) → n < count → AllMade w.start w.protocol.state n k v.protocol.state
      → Serves w.start (moment_at w.start v.protocol.state) Step (replies.Refused why) (moment_at w.start v.protocol.state)
      → ServesSteps w.start (moment w) count (replies.Refused why) (moment v)
  early n k why less a refusal = record {
    made = a.made;
    are_steps = a.are_steps;
    mid = moment v;
    run = run n k a;
    ends = (
      subst (λ x. x < count) (sym a.count) less,
      subst (λ m. Serves w.start m Step (replies.Refused why) m) new_moment refusal,
    );
  }

  by_reply : (reply : Reply) → IsStepAnswer w.start reply → (reply, v.protocol.state) ≡ steps_outcome w.start w.protocol.state count
      → ServesSteps w.start (moment w) count reply (moment v)
  by_reply (replies.Steps k) is e = all k (all_made w.start w.protocol.state good count k v.protocol.state e)
  by_reply (replies.Refused why) is e =
      let ended = ends_early w.start w.protocol.state good count why v.protocol.state e in
      early ended.tried ended.count why ended.less ended.before ended.refusal
  by_reply other is e = absurd is

  pub steps_serve : StepsAnswerIn w.start w.protocol.state count reply v.protocol.state → ServesSteps w.start (moment w) count reply (moment v)
  steps_serve (inl e) =
      by_reply reply (subst (λ (o : Outcome). IsStepAnswer w.start o.0) (sym e) (steps-answer w.start w.protocol.state count)) e
  steps_serve (inr k) =
      let made = k.2 in
      let a = all_made w.start w.protocol.state good made.0 made.2 v.protocol.state made.3 in
      rw k.1 (early made.0 made.2 (NoMemory wanted) made.1 a
      (one_refused w.start v.protocol.state a.good (NoMemory wanted) (inr (made.4, refl, refl))))
