-- Laws of the window of checkpoints.
use Rattle.std.proofs.Common.{◌≡◌, ℕ, zero, suc, ◌+◌, ◌-◌, ◌<◌, ◌≤◌, List, [], ◌∷◌, ◌++◌, length, take, drop, get_or, refl, sym, ap, ◌∙◌}
use Rattle.std.proofs.{Common.{subst, arith, Bool, true, false, cond, append_assoc, rules}}
use Rattle.std.proofs.{lemmas.List.{length-append, length-take-le, take-append-drop, append-nil}, Math.Seq.take-append_seam}
use Rattle.std.proofs.{Math.Seq.drop-append_seam, lemmas.Bool.{leb-false, leb-true, lt-leb, le-leb}}
use Rattle.std.specs.Prelude.{nat_le}
use Rattle.frame_ports.specs.Limits.{number_limit}
use Rattle.output_gate.specs.Epochs.{Epoch, frames_to, after_number, frames_of}
use Rattle.pair_history.specs.Entries.{Frame}
use Rattle.pair_record.specs.{declared.window.Window.Window, Window.{NumberedFrom, IsWindow, with_cut, with_commit, with_acknowledged}}
use Rattle.pair_record.specs.Window.{first_after, committed_count, committed_of, uncommitted_of}

pub NumberedFrom-push : (n : ℕ) (es : List Epoch) (e : Epoch) → NumberedFrom n es → e.number ≡ n + length es → NumberedFrom n (es ++ e ∷ [])
NumberedFrom-push n [] e h k = (omega arith, tt)
NumberedFrom-push n (x ∷ es) e h k = (h.0, NumberedFrom-push (n + 1) es e h.1 (omega arith))

pub numbered_below : (n m : ℕ) (es : List Epoch) → NumberedFrom n es → n + length es ≤ m → (k : ℕ) (d : Epoch) → k < length es
    → (get_or es k d).number < m
numbered_below n m [] h l k d i = absurd (omega arith)
numbered_below n m (e ∷ es) h l zero d i = omega arith
numbered_below n m (e ∷ es) h l (suc k) d i = numbered_below (n + 1) m es h.1 (omega arith) k d (omega arith)

-- what an acknowledgement of n takes off the front, and what stays
pub record Taken (n a : ℕ) (waiting others : List Epoch) : Type 0 where
  pub gone : List Epoch
  pub stay : List Epoch
  pub split : waiting ≡ gone ++ stay
  pub frames : frames_to n (waiting ++ others) ≡ frames_of gone
  pub rest : after_number n (waiting ++ others) ≡ stay ++ others
  pub count : cond (nat_le a n) (n + 1) a + length stay ≡ a + length waiting
  pub numbers : NumberedFrom (cond (nat_le a n) (n + 1) a) (stay ++ others)

-- none is taken where n comes before the first
none_taken : (n a : ℕ) (es : List Epoch) → n < a → NumberedFrom a es → (frames_to n es ≡ []) × (after_number n es ≡ es)
none_taken n a [] l h = (refl, refl)
none_taken n a (e ∷ es) l h =
    let off : nat_le e.number n ≡ false = ap (λ k. nat_le k n) h.0 ∙ lt-leb a n l in
    let later = none_taken n (a + 1) es (omega arith) h.1 in (
      ap (λ t. cond t (e.frames ++ frames_to n es) (frames_to n es)) off ∙ later.0,
      ap (λ t. cond t (after_number n es) (e ∷ after_number n es)) off ∙ ap (λ t. e ∷ t) later.1,
    )

none : (n a : ℕ) (waiting others : List Epoch) → n < a → NumberedFrom a (waiting ++ others) → Taken n a waiting others
none n a waiting others l h =
    let off = lt-leb a n l in
    record {
      gone = [];
      stay = waiting;
      split = refl;
      frames = (none_taken n a (waiting ++ others) l h).0;
      rest = (none_taken n a (waiting ++ others) l h).1;
      count = ap (λ t. cond t (n + 1) a + length waiting) off;
      numbers = rw (ap (λ t. cond t (n + 1) a) off) h;
    }

next_start : (a n : ℕ) → a ≤ n → cond (nat_le (a + 1) n) (n + 1) (a + 1) ≡ n + 1
next_start a n h = by_test (nat_le (a + 1) n) refl
  where
    by_test : (t : Bool) → nat_le (a + 1) n ≡ t → cond t (n + 1) (a + 1) ≡ n + 1
    by_test true e = refl
    by_test false e = let l : n < a + 1 = leb-false (a + 1) n e in omega arith

-- the first is taken, and then what comes behind it
one_more : (n a : ℕ) (e : Epoch) (waiting others : List Epoch) → a ≤ n → NumberedFrom a (e ∷ (waiting ++ others))
    → Taken n (a + 1) waiting others → Taken n a (e ∷ waiting) others
one_more n a e waiting others l h m =
    let on : nat_le e.number n ≡ true = ap (λ k. nat_le k n) h.0 ∙ le-leb a n l in
    let here : cond (nat_le a n) (n + 1) a ≡ n + 1 = ap (λ t. cond t (n + 1) a) (le-leb a n l) in
    let there = next_start a n l in
    record {
      gone = e ∷ m.gone;
      stay = m.stay;
      split = ap (λ t. e ∷ t) m.split;
      frames = ap (λ t. cond t (e.frames ++ frames_to n (waiting ++ others)) (frames_to n (waiting ++ others))) on
          ∙ ap (λ t. e.frames ++ t) m.frames;
      rest = ap (λ t. cond t (after_number n (waiting ++ others)) (e ∷ after_number n (waiting ++ others))) on ∙ m.rest;
      count = let c = m.count in omega arith;
      numbers = rw (← (there ∙ sym here)) m.numbers;
    }

pub taken : (n a : ℕ) (waiting others : List Epoch) → n < a + length waiting → NumberedFrom a (waiting ++ others) → Taken n a waiting others
taken n a [] others l h = none n a [] others (omega arith) h
taken n a (e ∷ waiting) others l h =
    by_test n a e waiting others h (nat_le a n) refl (λ from. taken n (a + 1) waiting others (omega arith) h.1)
  where
    by_test : (n a : ℕ) (e : Epoch) (waiting others : List Epoch) → NumberedFrom a (e ∷ (waiting ++ others)) → (t : Bool) → nat_le a n ≡ t
        → (a ≤ n → Taken n (a + 1) waiting others) → Taken n a (e ∷ waiting) others
    by_test n a e waiting others h true i more = one_more n a e waiting others (leb-true a n i) h (more (leb-true a n i))
    by_test n a e waiting others h false i more = none n a (e ∷ waiting) others (leb-false a n i) h

-- the frames of all epochs, where none has a number above n
pub frames_to-all : (n m : ℕ) (es : List Epoch) → NumberedFrom m es → m + length es ≤ n + 1 → frames_to n es ≡ frames_of es
frames_to-all n m [] h l = refl
frames_to-all n m (e ∷ es) h l = search (arith, rules, le-leb, frames_to-all n (m + 1) es h.1 (omega arith))

pub frames_of-push : (es : List Epoch) (e : Epoch) → frames_of (es ++ e ∷ []) ≡ frames_of es ++ e.frames
frames_of-push [] e = append-nil e.frames
frames_of-push (x ∷ es) e =
    ap (λ (t : List Frame). x.frames ++ t) (frames_of-push es e) ∙ sym (append_assoc x.frames (frames_of es) e.frames)

-- The window after each event that moves it.

module _ (w : Window) (pending : List Epoch) (h : IsWindow w pending) where
  pub within : committed_count w ≤ length pending
  within = let a = h.count in let b = h.cut in let c = h.committed in omega arith

  -- one more is committed
  pub next_committed : (w.to_commit + 1) - w.to_acknowledge ≡ suc (committed_count w)
  next_committed = let c = h.committed in omega arith

  pub cut_window : (e : Epoch) → e.number ≡ w.to_cut → length pending < 4 → w.to_cut < number_limit
      → IsWindow (with_cut w) (pending ++ e ∷ [])
  cut_window e number few last =
      let long : length (pending ++ e ∷ []) ≡ length pending + 1 = length-append pending (e ∷ []) in
      let a = h.count in let b = h.cut in
      record {
        numbers = NumberedFrom-push w.to_acknowledge pending e h.numbers (number ∙ sym h.count);
        count = omega arith;
        committed = h.committed;
        cut = omega arith;
        few = omega arith;
        last = omega arith;
      }

  pub commit_window : w.to_commit < w.to_cut → IsWindow (with_commit w) pending
  commit_window more = record {
    numbers = h.numbers;
    count = h.count;
    committed = let c = h.committed in omega arith;
    cut = omega arith;
    few = h.few;
    last = h.last;
  }

  whole : committed_of w pending ++ uncommitted_of w pending ≡ pending
  whole = take-append-drop (committed_count w) pending

  long_committed : length (committed_of w pending) ≡ committed_count w
  long_committed = length-take-le (committed_count w) pending within

  module _ (n : ℕ) (below : n < w.to_commit) where
    pub leaves : Taken n w.to_acknowledge (committed_of w pending) (uncommitted_of w pending)
    leaves =
        taken n w.to_acknowledge (committed_of w pending) (uncommitted_of w pending)
        (let l = long_committed in let c = h.committed in omega arith)
        (subst (NumberedFrom w.to_acknowledge) (sym whole) h.numbers)

    pub left_over : after_number n pending ≡ leaves.stay ++ uncommitted_of w pending
    left_over = ap (after_number n) (sym whole) ∙ leaves.rest

    stay_count : first_after n w.to_acknowledge + length leaves.stay ≡ w.to_commit
    stay_count = let k = leaves.count in let l = long_committed in let c = h.committed in omega arith

    seam : committed_count (with_acknowledged n w) ≡ length leaves.stay
    seam = let k = stay_count in omega arith

    -- of those that the backup has committed, these stay; the others all do
    pub committed_left : committed_of (with_acknowledged n w) (after_number n pending) ≡ leaves.stay
    committed_left =
        ap (λ k. take k (after_number n pending)) seam
        ∙ ap (take (length leaves.stay)) left_over ∙ take-append_seam leaves.stay (uncommitted_of w pending)

    pub uncommitted_left : uncommitted_of (with_acknowledged n w) (after_number n pending) ≡ uncommitted_of w pending
    uncommitted_left =
        ap (λ k. drop k (after_number n pending)) seam
        ∙ ap (drop (length leaves.stay)) left_over ∙ drop-append_seam leaves.stay (uncommitted_of w pending)

    pub gone : frames_to n pending ≡ frames_of leaves.gone
    gone = ap (frames_to n) (sym whole) ∙ leaves.frames

    pub ack_window : IsWindow (with_acknowledged n w) (after_number n pending)
    ack_window =
        let k = stay_count in
        let l = long_committed in
        let s1 = ap length leaves.split in
        let s2 = length-append leaves.gone leaves.stay in
        let o1 = ap length left_over in
        let o2 = length-append leaves.stay (uncommitted_of w pending) in
        let o3 = ap length whole in
        let o4 = length-append (committed_of w pending) (uncommitted_of w pending) in
        let a = h.count in
        let b = h.few in
        record {
          numbers = rw left_over leaves.numbers;
          count = omega arith;
          committed = omega arith;
          cut = h.cut;
          few = omega arith;
          last = h.last;
        }
