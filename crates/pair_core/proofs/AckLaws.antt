-- As long as no node fails, what acknowledgements let out is what the guest sent up to the cut of the last of them.
use Rattle.std.proofs.Common.{arith, ◌≡◌, ℕ, ◌+◌, ◌<◌, ◌≤◌, List, [], ◌∷◌, ◌++◌, length, refl, sym, ap, ◌∙◌, subst, append_assoc}
use Rattle.std.proofs.Common.{Bool, true, false}
use Rattle.std.proofs.{lemmas.Bool.Decides.nat_tests, lemmas.List.{append-nil, append_cancel_left}}
use Rattle.std.proofs.lemmas.List.Elements.{All-nil, All-head, All-tail, All-append}
use Rattle.std.specs.Prelude.{All, get_or, nat_le}
use Rattle.failover.specs.declared.mode.Mode.TheVariants.{Paired}
use Rattle.frame_ports.specs.{Addresses.targets_of, laws.Addresses.targets_of-append}
use Rattle.output_gate.specs.Epochs.{Epoch, epoch, frames_of, frames_to, after_number}
use Rattle.output_gate.specs.laws.Epochs.{frames_to-append}
use Rattle.pair_history.specs.Entries.{Frame, Entry, Ran, Arrive}
use Rattle.pair_history.specs.{HistoryState.{HistoryState, after, out_of}, Landings.DropsAreKnown}
use Rattle.pair_history.specs.{Leaving.{LeaveInOrder, NotGivenUp, leaving, frames_left}, Released.{sent_to, IsFresh}}
use Rattle.pair_history.specs.laws.{Drops.{asked-known, DropsAreKnown-append}, Histories.boxes-stay}
use Rattle.pair_history.specs.laws.Leaving.{all_leave_in_order, frames_left-append, leaving-append, none_leave, out_of-append}
use Rattle.pair_record.specs.declared.event.{Event.Event, Event.TheVariants.{Step, Cut}, Reply.Reply}
use Rattle.pair_record.specs.declared.event.Reply.TheVariants as replies
use Rattle.pair_record.specs.{Journal.{kept_entries, all_entries}, Modes.{is_alone}}
use Rattle.pair_record.specs.{Protocol.{Record, Outcome, refused, shown_at, outbox_of}, Record.start_record}
use Rattle.pair_record.specs.{Window.{NumberedFrom, IsWindow, first_after}, laws.Windows.frames_to-all}
use Rattle.pair_core.specs.Acknowledged.{greater, acked_to, greatest_acked, IsOrdinary, AreOrdinary}
use Rattle.pair_core.specs.{Drops.LetsOut, Lines.Lines, Pair.{Pair, shown_state, IsConsistent}, Replication.{Does, Leads}}
use Rattle.pair_core.specs.laws.{Along.along-keeps, Ends.{Ends, answers_end}, Tells.{OfGuest, takes-none}}
use Rattle.failover.specs.Modes.{mode_filled}

-- NUMBERS of what is pending

none_below : (n a : ℕ) (es : List Epoch) → NumberedFrom a es → n < a → (frames_to n es ≡ []) × (after_number n es ≡ es)
none_below n a [] p l = (refl, refl)
none_below n a (e ∷ es) p l =
    let more = none_below n (a + 1) es p.1 (omega arith) in
    let first : e.number ≡ a = p.0 in
    let none : nat_le e.number n ≡ false = grind (arith, nat_tests) in
    (rw none more.0, rw none (ap (λ t. e ∷ t) more.1))

parts : (n m a : ℕ) (es : List Epoch) → NumberedFrom a es → n ≤ m
    → frames_to n es ++ frames_to m (after_number n es) ≡ frames_to m es
parts n m a [] p l = refl
parts n m a (e ∷ es) p l = by_test (nat_le e.number n) refl (parts n m (a + 1) es p.1 l)
  where
    by_test : (t : Bool) → nat_le e.number n ≡ t → frames_to n es ++ frames_to m (after_number n es) ≡ frames_to m es
        → frames_to n (e ∷ es) ++ frames_to m (after_number n (e ∷ es)) ≡ frames_to m (e ∷ es)
    by_test true is more =
        let too : nat_le e.number m ≡ true = grind (arith, nat_tests) in
        rw (is, too) (append_assoc e.frames (frames_to n es) (frames_to m (after_number n es)) ∙ ap (λ t. e.frames ++ t) more)
    by_test false is more =
        let first : e.number ≡ a = p.0 in
        let low : n < a = grind (arith, nat_tests) in
        let none = none_below n (a + 1) es p.1 (omega arith) in
        rw is (rw (none.0, none.1) refl)

to-later : (m n : ℕ) (es : List Epoch) (fs : List Frame) → m < n → frames_to m (es ++ epoch n fs ∷ []) ≡ frames_to m es
to-later m n es fs l =
    let none : nat_le n m ≡ false = grind (arith, nat_tests) in
    frames_to-append m es (epoch n fs ∷ []) ∙ rw none (append-nil (frames_to m es))

to-itself : (m : ℕ) (fs : List Frame) → frames_to m (epoch m fs ∷ []) ≡ fs
to-itself m fs =
    let low : nat_le m m ≡ true = grind (arith, nat_tests) in
    rw low (append-nil fs)

-- ONE EVENT

-- the greatest number so far, and the next to be acknowledged
acked_next : (n g : ℕ) → first_after n (g + 1) ≡ greater g n + 1
acked_next n g = grind (arith, nat_tests)

-- several acknowledgements, one after another

acked-append : (g : ℕ) (told answers : List Reply) → acked_to g (told ++ answers) ≡ acked_to (acked_to g told) answers
acked-append g [] answers = refl
acked-append g (replies.Acked generation number landed ∷ told) answers = acked-append (greater g number) told answers
acked-append g (other ∷ told) answers = acked-append g told answers

acked-grows : (g : ℕ) (answers : List Reply) → g ≤ acked_to g answers
acked-grows g [] = omega arith
acked-grows g (replies.Acked generation number landed ∷ answers) =
    let more = acked-grows (greater g number) answers in
    let one : g ≤ greater g number = grind (arith, nat_tests) in
    omega arith
acked-grows g (other ∷ answers) = acked-grows g answers

acked-below : (g : ℕ) (r : Reply) → acked_to 0 (r ∷ []) ≤ acked_to g (r ∷ [])
acked-below g (replies.Acked generation number landed) = grind (arith, nat_tests)
acked-below g other = omega arith

-- what a reply tells of the next number to be acknowledged, and of what is pending
abbrev NextAcked : Reply → ℕ → ℕ → Type 0
NextAcked (replies.Acked generation number landed) a b = b ≡ first_after number a
NextAcked other a b = b ≡ a

-- what a cut, answered so, leaves
record CutOf (start : HistoryState) (r : Record) (n : ℕ) (q : Record) : Type 0 where
  number : n ≡ r.window.to_cut
  cut : q.window.to_cut ≡ n + 1
  pending : q.pending ≡ r.pending ++ epoch n (outbox_of start r) ∷ []
  history : q.journal.history ≡ r.journal.history

abbrev IsCutOf : HistoryState → Record → Reply → Record → Type 0
IsCutOf start r (replies.Cut generation n) q = CutOf start r n q
IsCutOf start r other q = Unit {0}

-- what the gate holds for a client, of so many, of the checkpoints up to a number
abbrev held : ℕ → ℕ → ℕ → Record → List Frame
held count c m r = out_of c (targets_of count (frames_to m r.pending))

module _ (start : HistoryState) (r : Record) where
  abbrev count : ℕ
  count = length (shown_at start r).boxes

  record Keeps (event : Event) (es : List Entry) (o : Outcome) : Type 0 where
    two : o.1.mode ≡ Paired
    cut : r.window.to_cut ≤ o.1.window.to_cut
    acked : NextAcked o.0 r.window.to_acknowledge o.1.window.to_acknowledge
    sealed : IsCutOf start r o.0 o.1
    given : LetsOut start r event o.0 es → (c : ℕ) → All NotGivenUp (leaving (shown_at start r) es c)
    passes : LetsOut start r event o.0 es → (c m : ℕ) → m < r.window.to_cut → acked_to 0 (o.0 ∷ []) ≤ m
        → frames_left (leaving (shown_at start r) es c) ++ held count c m o.1 ≡ held count c m r

  module _ (mode : r.mode ≡ Paired) (window : IsWindow r.window r.pending) where
    -- nothing leaves, and nothing else that counts changes
    same : (event : Event) (es : List Entry) (o : Outcome) → o.1.mode ≡ r.mode → o.1.window ≡ r.window → o.1.pending ≡ r.pending
        → NextAcked o.0 r.window.to_acknowledge r.window.to_acknowledge → IsCutOf start r o.0 o.1
        → (LetsOut start r event o.0 es → LeaveInOrder (shown_at start r) es []) → Keeps event es o
    same event es o m w p n cut lets = record {
      two = m ∙ mode;
      cut = rw w (omega arith);
      acked = rw w n;
      sealed = cut;
      given = λ l c. (lets l c).1;
      passes = λ l c k less most. (λ i. (lets l c).0 i ++ held count c k (record r { pending = p i }));
    }

    none : LeaveInOrder (shown_at start r) [] []
    none c = (refl, All-nil NotGivenUp)

    keeps_all : (l : Lines) → Ends start r l (λ event es o. IsOrdinary event → Keeps event es o)
    keeps_all l = record {
      refuses = λ event why plain ordinary. same event [] (refused r why) refl refl refl refl tt (λ l. none);
      step = λ alone is ordinary. same Step _ _ refl refl refl refl tt (λ l. l (ap is_alone mode));
      cut = λ ordinary. record {
        two = mode;
        cut = omega arith;
        acked = refl;
        sealed = record { number = refl; cut = refl; pending = refl; history = refl };
        given = λ l c. (l c).1;
        passes = λ l c m less most.
            (λ i. (l c).0 i ++ out_of c (targets_of count (to-later m r.window.to_cut r.pending (outbox_of start r) less i)));
      };
      send = λ ordinary. same _ _ _ refl refl refl refl tt (λ l. l);
      lost = λ k. ((λ ordinary. same _ _ _ refl refl refl refl tt (λ l. l)), (λ ordinary. same _ _ _ refl refl refl refl tt (λ l. l)));
      again = λ k ordinary. same _ _ _ refl refl refl refl tt (λ l. l);
      commit = λ k goes ordinary. record {
        two = ap mode_filled mode;
        cut = omega arith;
        acked = refl;
        sealed = tt;
        given = λ l c. (l c).1;
        passes = λ l c m less most. (λ i. (l c).0 i ++ held count c m r);
      };
      acknowledge = λ k p is same ordinary. record {
        two = mode;
        cut = omega arith;
        acked = refl;
        sealed = tt;
        given = λ l c. (l c).1;
        passes = λ l c m less most.
            let n = p.number in
            let gone = frames_to n r.pending in
            let stay = frames_to m (after_number n r.pending) in
            let low : n ≤ m = grind (arith, nat_tests) in
            ap (λ t. t ++ out_of c (targets_of count stay)) (l c).0
            ∙ sym (out_of-append c (targets_of count gone) (targets_of count stay))
            ∙ ap (out_of c) (sym (targets_of-append count gone stay))
            ∙ ap (λ t. out_of c (targets_of count t)) (parts n m r.window.to_acknowledge r.pending window.numbers low);
      };
      empty = λ c place. (
        (λ ordinary. same _ _ _ refl refl refl refl tt (λ l. l)),
        (λ ordinary. same _ _ _ refl refl refl refl tt (λ l. l)),
        (λ ordinary. same _ _ _ refl refl refl refl tt (λ l. l)),
      );
      admit = λ c n alone is ordinary. same _ _ _ refl refl refl refl tt (λ l. l);
      full = λ c bytes ordinary. same _ _ _ refl refl refl refl tt (λ l. l);
      deliver = λ c bytes ordinary. same _ _ _ refl refl refl refl tt (λ l. l);
      take = λ c ordinary. same _ _ _ refl refl refl refl tt (λ l. l);
      lose_in = λ c place x is ordinary. same _ _ _ refl refl refl refl tt (λ l. l);
      lose_out = λ c place f is ordinary. same _ _ _ refl refl refl refl tt (λ l. l);
      fail_primary = λ goes ordinary. absurd ordinary;
      fail_backup = λ ordinary. absurd ordinary;
      go_live = λ ordinary. absurd ordinary;
      protect = λ ordinary. absurd ordinary;
    }

start-along : (events : List Event) (answers : List Reply) (old new : Pair) → Leads old events answers new → new.start ≡ old.start
start-along events answers old new l =
    along-keeps Does (λ w. w.start ≡ old.start) (λ event reply v w one same. one.start ∙ same) events answers old new l refl

-- WHAT IS HELD AND WHAT LEFT, of a pair

-- what the guest did drops nothing
guest-known : (s : HistoryState) (es : List Entry) → All OfGuest es → DropsAreKnown s es
guest-known s [] p = tt
guest-known s (e ∷ es) p = one e (All-head OfGuest e es p) (λ t. guest-known t es (All-tail OfGuest e es p))
  where
    one : (e : Entry) → OfGuest e → ((t : HistoryState) → DropsAreKnown t es) → DropsAreKnown s (e ∷ es)
    one Ran p more = more (after s Ran)
    one (Arrive n) p more = more (after s (Arrive n))
    one other p more = absurd (cc)

module _ (c : ℕ) where
  abbrev left : Pair → List Frame
  left w = frames_left (leaving w.start w.protocol.state.journal.history c)

  -- what left, and then what the gate and the outbox hold, is all that was sent
  pub all_accounted : (w : Pair) → IsConsistent w → IsFresh w.start
      → sent_to w.start (all_entries w.protocol.state.journal) c
      ≡ left w ++ out_of c (targets_of (length w.ports.boxes) (frames_of w.protocol.state.pending ++ w.nodes.live.outbox))
  all_accounted w k fresh =
      let h = w.protocol.state.journal.history in
      let kept = kept_entries w.protocol.state.journal in
      let known = DropsAreKnown-append w.start h kept (asked-known w.start h k.drops) (guest-known (shown_state w) kept k.kept) in
      let none = none_leave (shown_state w) kept (λ n d l. takes-none (get_or kept n d) (k.kept n d l)) c in
      all_leave_in_order w.start (h ++ kept) c fresh known
      ∙ (λ i. frames_left (leaving-append w.start h kept c i) ++ out_of c (sym k.owed i))
      ∙ ap (λ t. t ++ owed w) (frames_left-append (leaving w.start h c) (leaving (shown_state w) kept c))
      ∙ ap (λ t. (left w ++ t) ++ owed w) none.0
      ∙ ap (λ t. t ++ owed w) (append-nil (left w))
    where
      owed : Pair → List Frame
      owed w = out_of c (targets_of (length w.ports.boxes) (frames_of w.protocol.state.pending ++ w.nodes.live.outbox))

  -- of clients as many as at the start
  abbrev held_of : ℕ → Pair → List Frame
  held_of m w = held (length w.start.boxes) c m w.protocol.state

  record State (g : ℕ) (w : Pair) : Type 0 where
    two : w.protocol.state.mode ≡ Paired
    acked : w.protocol.state.window.to_acknowledge ≡ g + 1
    given : All NotGivenUp (leaving w.start w.protocol.state.journal.history c)
    consistent : IsConsistent w

  -- ONE EVENT leaves what is held up to a number, and what left before it, as they are in all

  module _ (g : ℕ) (event : Event) (reply : Reply) (old new : Pair) (d : Does old event reply new) (ordinary : IsOrdinary event)
      (s : State g old) where
    keeps : (es : List Entry) × (new.protocol.state.journal.history ≡ old.protocol.state.journal.history ++ es)
        × (IsOrdinary event → Keeps old.start old.protocol.state event es (reply, new.protocol.state))
    keeps =
        answers_end old.start old.protocol.state old.protocol.lines _
        (keeps_all old.start old.protocol.state s.two s.consistent.window old.protocol.lines) event reply new.protocol.state d.answers.0

    kept : Keeps old.start old.protocol.state event keeps.0 (reply, new.protocol.state)
    kept = keeps.2 ordinary

    lets : LetsOut old.start old.protocol.state event reply keeps.0
    lets =
        let same : keeps.0 ≡ d.drops.entries =
        append_cancel_left old.protocol.state.journal.history keeps.0 d.drops.entries (sym keeps.1 ∙ d.drops.grows) in
        subst (LetsOut old.start old.protocol.state event reply) (sym same) d.drops.lets

    leaves : leaving new.start new.protocol.state.journal.history c
        ≡ leaving old.start old.protocol.state.journal.history c ++ leaving (shown_state old) keeps.0 c
    leaves = (λ i. leaving (d.start i) (keeps.1 i) c) ∙ leaving-append old.start old.protocol.state.journal.history keeps.0 c

    next : State (acked_to g (reply ∷ [])) new
    next = record {
      two = kept.two;
      acked = by_reply reply kept.acked;
      given = subst (All NotGivenUp) (sym leaves)
          (All-append NotGivenUp (leaving old.start old.protocol.state.journal.history c) (leaving (shown_state old) keeps.0 c) s.given
          (kept.given lets c));
      consistent = d.consistent;
    }
      where
        by_reply : (reply : Reply) → NextAcked reply old.protocol.state.window.to_acknowledge new.protocol.state.window.to_acknowledge
            → new.protocol.state.window.to_acknowledge ≡ acked_to g (reply ∷ []) + 1
        by_reply (replies.Acked generation n landed) e = e ∙ ap (first_after n) s.acked ∙ acked_next n g
        by_reply other e = e ∙ s.acked

    passes : (m : ℕ) → m < old.protocol.state.window.to_cut → acked_to 0 (reply ∷ []) ≤ m
        → left new ++ held_of m new ≡ left old ++ held_of m old
    passes m less most =
        let n = length old.start.boxes in
        let gone = frames_left (leaving (shown_state old) keeps.0 c) in
        let count = boxes-stay old.start old.protocol.state.journal.history in
        let one = kept.passes lets c m less most in
        (λ i. frames_left (leaves i) ++ held (length (d.start i).boxes) c m new.protocol.state)
        ∙ ap (λ t. t ++ held n c m new.protocol.state)
        (frames_left-append (leaving old.start old.protocol.state.journal.history c) (leaving (shown_state old) keeps.0 c))
        ∙ append_assoc (left old) gone (held n c m new.protocol.state)
        ∙ ap (λ t. left old ++ t)
        (subst (λ n. gone ++ held n c m new.protocol.state ≡ held n c m old.protocol.state) count one)

  -- from the moment on when all up to number m was cut
  record Cut-to (m : ℕ) (sent : List Frame) (w : Pair) : Type 0 where
    cut : m < w.protocol.state.window.to_cut
    all : left w ++ held_of m w ≡ sent

  -- as long as none beyond m is acknowledged, that is what left and is held up to it
  record Stands (m : ℕ) (sent : List Frame) (g : ℕ) (w : Pair) : Type 0 where
    state : State g w
    passes_on : g ≤ m → Cut-to m sent w

  stands : (m : ℕ) (sent : List Frame) (g : ℕ) (event : Event) (reply : Reply) (old new : Pair) → Does old event reply new
      → IsOrdinary event → Stands m sent g old → Stands m sent (acked_to g (reply ∷ [])) new
  stands m sent g event reply old new d ordinary s = record {
    state = next g event reply old new d ordinary s.state;
    passes_on = λ most.
        let more = acked-grows g (reply ∷ []) in
        let few = acked-below g reply in
        let before = s.passes_on (omega arith) in
        let less = before.cut in
        let later = (kept g event reply old new d ordinary s.state).cut in
        record { cut = omega arith; all = passes g event reply old new d ordinary s.state m before.cut (omega arith) ∙ before.all };
  }

  -- THE CUT puts all that was sent below its number

  module _ (m g : ℕ) (old new : Pair) (d : Does old Cut (replies.Cut 1 m) new) (s : State g old) (fresh : IsFresh old.start) where
    cut_so : Cut-to m (sent_to old.start (all_entries old.protocol.state.journal) c) new
    cut_so =
        let r = old.protocol.state in
        let w = s.consistent.window in
        let n = length old.start.boxes in
        let last = epoch m (outbox_of old.start r) in
        let count : length old.ports.boxes ≡ n = ap length s.consistent.boxes ∙ boxes-stay old.start r.journal.history in
        let cut = (kept g Cut (replies.Cut 1 m) old new d tt s).sealed in
        let number = cut.number in
        let to_cut = cut.cut in
        let long = w.count in
        let fits : r.window.to_acknowledge + length r.pending ≤ m = omega arith in
        let own : frames_to m (r.pending ++ last ∷ []) ≡ frames_of r.pending ++ outbox_of old.start r =
        frames_to-append m r.pending (last ∷ [])
        ∙ (λ i. frames_to-all m r.window.to_acknowledge r.pending w.numbers (omega arith) i ++ to-itself m (outbox_of old.start r) i) in
        record {
          cut = omega arith;
          all =
              (λ i. frames_left (leaving (d.start i) (cut.history i) c)
              ++ out_of c (targets_of (length (d.start i).boxes) (frames_to m (cut.pending i))))
              ∙ ap (λ fs. left old ++ out_of c (targets_of n fs)) own
              ∙ (λ i. left old ++ out_of c (targets_of (sym count i) (frames_of r.pending ++ sym s.consistent.outbox i)))
              ∙ sym (all_accounted old s.consistent fresh);
        }

-- A RUN of ordinary events carries on what each of them does, as numbers are acknowledged
module _ (P : ℕ → Pair → Type 0) (one : (g : ℕ) (event : Event) (reply : Reply) (old new : Pair) → Does old event reply new
    → IsOrdinary event → P g old → P (acked_to g (reply ∷ [])) new) where
  along : (events : List Event) (answers : List Reply) (old new : Pair) → Leads old events answers new → AreOrdinary events
      → (g : ℕ) → P g old → P (acked_to g answers) new
  along [] [] old new l o g p = subst (P g) (sym l) p
  along [] (r ∷ answers) old new l o g p = absurd l
  along (e ∷ events) [] old new l o g p = absurd l
  along (e ∷ events) (r ∷ answers) old new l o g p =
      subst (λ n. P n new) (sym (acked-append g (r ∷ []) answers))
      (along events answers l.0 new l.2 o.1 (acked_to g (r ∷ [])) (one g e r old l.0 l.1 o.0 p))

-- SINCE BOOT

module _ (c m : ℕ) (boot cut now late : Pair) (before then : List Event) (told answers : List Reply) where
  pub left_since_boot : IsConsistent boot → boot.protocol.state ≡ start_record → IsFresh boot.start
      → Leads boot before told cut → AreOrdinary before → Does cut Cut (replies.Cut 1 m) now
      → Leads now then answers late → AreOrdinary then → greatest_acked (told ++ answers) ≡ m
      → (frames_left (leaving late.start late.protocol.state.journal.history c) ≡ sent_to cut.start (all_entries cut.protocol.state.journal) c)
      × All NotGivenUp (leaving late.start late.protocol.state.journal.history c)
  left_since_boot k at_start fresh l o d l' o' most =
      let first : State c 0 boot = record {
        two = ap (λ (r : Record). r.mode) at_start;
        acked = ap (λ (r : Record). r.window.to_acknowledge) at_start;
        given = subst (λ (r : Record). All NotGivenUp (leaving boot.start r.journal.history c)) (sym at_start) (All-nil NotGivenUp);
        consistent = k;
      } in
      let g = acked_to 0 told in
      let sent = sent_to cut.start (all_entries cut.protocol.state.journal) c in
      let s = along (State c) (next c) before told boot cut l o 0 first in
      let same : cut.start ≡ boot.start = start-along before told boot cut l in
      let all = cut_so c m g cut now d s (subst IsFresh (sym same) fresh) in
      let total : acked_to g answers ≡ m = sym (acked-append 0 told answers) ∙ most in
      let end = along (Stands c m sent) (stands c m sent) then answers now late l' o' g
      (record { state = next c g Cut (replies.Cut 1 m) cut now d tt s; passes_on = λ low. all }) in
      let acked : late.protocol.state.window.to_acknowledge ≡ m + 1 = end.state.acked ∙ ap (λ x. x + 1) total in
      let none = (none_below m (m + 1) late.protocol.state.pending
      (subst (λ x. NumberedFrom x late.protocol.state.pending) acked end.state.consistent.window.numbers) (omega arith)).0 in (
        sym (append-nil (left c late))
            ∙ ap (λ fs. left c late ++ out_of c (targets_of (length late.start.boxes) fs)) (sym none)
            ∙ (end.passes_on (omega arith)).all,
        end.state.given,
      )
