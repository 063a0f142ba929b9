-- Each delivered frame arrived, was dropped before it could, or waits.
use Rattle.std.proofs.Common.{◌≡◌, ℕ, ◌+◌, List, [], ◌∷◌, ◌++◌, length, refl, arith, append_assoc, Bool, true, false}
use Rattle.std.proofs.Common.{cond}
use Rattle.std.specs.Prelude.{◌==◌, Some}
use Rattle.std.specs.List.{range_with_len}
use Rattle.std.specs.List.Sorted.{IsPermutation}
use Rattle.std.proofs.lemmas.Bool.{eqb-true}
use Rattle.std.proofs.lemmas.List.{map-append, append-nil}
use Rattle.std.proofs.lemmas.List.Sorted.{IsPermutation-refl, IsPermutation-cons, IsPermutation-sym}
use Rattle.std.proofs.lemmas.List.Sorted.{IsPermutation-trans, IsPermutation-middle, IsPermutation-append_left}
use Rattle.pair_history.specs.Entries.{Entry, Arrive, Delivered, DropIn}
use Rattle.pair_history.specs.HistoryState.{HistoryState, Waiting, frame_numbered, without_number, at, after, Legal}
use Rattle.pair_history.specs.Failures.{arrived_numbers, dropped_numbers}
use Rattle.pair_history.specs.Fates.{delivered_numbers, waiting_numbers}
use Rattle.pair_history.specs.Waits.{Waits}
use Rattle.pair_history.specs.laws.Waiting.{first-waits}

-- a frame that leaves what waits
leaves : (n : ℕ) (ws : List Waiting) → Waits n ws → IsPermutation (waiting_numbers ws) (n ∷ waiting_numbers (without_number n ws))
leaves n [] w = let e = w.1 in absurd (cc)
leaves n (x ∷ xs) w = by_test (x.number == n) refl w.1 (λ e. leaves n xs (w.0, e))
  where
    by_test : (t : Bool) → (x.number == n) ≡ t → cond t (Some x.frame) (frame_numbered n xs) ≡ Some w.0
        → (frame_numbered n xs ≡ Some w.0 → IsPermutation (waiting_numbers xs) (n ∷ waiting_numbers (without_number n xs)))
        → IsPermutation (x.number ∷ waiting_numbers xs) (n ∷ waiting_numbers (cond t xs (x ∷ without_number n xs)))
    by_test true e d rest = rw (eqb-true x.number n e) (IsPermutation-refl (n ∷ waiting_numbers xs))
    by_test false e d rest =
        let left = waiting_numbers (without_number n xs) in
        IsPermutation-trans (x.number ∷ waiting_numbers xs) (x.number ∷ n ∷ left) (n ∷ x.number ∷ left)
        (IsPermutation-cons x.number (waiting_numbers xs) (n ∷ left) (rest d)) (IsPermutation-middle (x.number ∷ []) n left)

-- what waited or was delivered has arrived, was dropped, or waits
abbrev pub Fates : HistoryState → List Entry → Type 0
Fates s es = IsPermutation (waiting_numbers s.waiting ++ delivered_numbers es)
    (arrived_numbers es ++ (dropped_numbers es ++ waiting_numbers (at s es).waiting))

-- that frame first, and then the fates of the others
one_leaves : (s : HistoryState) (n : ℕ) (es : List Entry) (fates : List ℕ) → Waits n s.waiting
    → IsPermutation (waiting_numbers (without_number n s.waiting) ++ delivered_numbers es) fates
    → IsPermutation (waiting_numbers s.waiting ++ delivered_numbers es) (n ∷ fates)
one_leaves s n es fates w rest =
    let ws = waiting_numbers s.waiting in
    let left = waiting_numbers (without_number n s.waiting) in
    let new = delivered_numbers es in
    IsPermutation-trans (ws ++ new) (n ∷ (left ++ new)) (n ∷ fates)
    (IsPermutation-append_left new ws (n ∷ left) (leaves n s.waiting w)) (IsPermutation-cons n (left ++ new) fates rest)

pub fates : (s : HistoryState) (es : List Entry) → Legal s es → Fates s es
fates s [] h = rw append-nil (IsPermutation-refl (waiting_numbers s.waiting))
fates s (Arrive n ∷ es) h = one_leaves s n es _ (first-waits n s.waiting h.0) (fates (after s (Arrive n)) es h.1)
fates s (DropIn n ∷ es) h =
    let came = arrived_numbers es in
    let others = dropped_numbers es ++ waiting_numbers (at (after s (DropIn n)) es).waiting in
    IsPermutation-trans (waiting_numbers s.waiting ++ delivered_numbers es) (n ∷ (came ++ others)) (came ++ (n ∷ others))
    (one_leaves s n es (came ++ others) h.0 (fates (after s (DropIn n)) es h.1))
    (IsPermutation-sym (came ++ (n ∷ others)) (n ∷ (came ++ others)) (IsPermutation-middle came n others))
fates s (Delivered c f n ∷ es) h =
    rw (map-append, append_assoc (waiting_numbers s.waiting) (n ∷ []) (delivered_numbers es)) at (fates (after s (Delivered c f n)) es h.1)
fates s (other ∷ es) h = fates (after s other) es h.1

-- delivered frames are numbered one after another
abbrev pub Numbered : ℕ → ℕ → List ℕ → Type 0
Numbered first end ns = (ns ≡ range_with_len first (length ns)) × (end ≡ first + length ns)

pub numbered : (s : HistoryState) (es : List Entry) → Legal s es → Numbered s.number (at s es).number (delivered_numbers es)
numbered s [] h = (refl, omega arith)
numbered s (Delivered c f n ∷ es) h =
    let more = numbered (after s (Delivered c f n)) es h.1 in
    (λ i. h.0.2 i ∷ more.0 i, omega (arith, more.1))
numbered s (other ∷ es) h = numbered (after s other) es h.1
