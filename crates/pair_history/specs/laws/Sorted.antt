-- A list that was sorted is its numbers in rising order.
use Rattle.std.proofs.Common.{◌≡◌, ℕ, zero, suc, ◌+◌, ◌<◌, ◌≤◌, List, [], ◌∷◌, refl, sym, ◌∙◌, arith, cond, Bool, true, false}
use Rattle.std.specs.Prelude.{◌==◌, nat_le}
use Rattle.std.specs.List.{count_by}
use Rattle.std.specs.List.Sorted.{IsPermutation, IsNonDecreasing}
use Rattle.std.proofs.lemmas.Bool.Decides.{nat_tests}
use Rattle.std.proofs.lemmas.List.Sorted.{IsPermutation-refl, IsPermutation-cons, IsPermutation-trans, IsPermutation-insert}
use Rattle.std.proofs.lemmas.List.Sorted.{sum_by-IsPermutation}
use Rattle.std.proofs.lemmas.List.Sums.{sum_by-cons}
use Rattle.pair_history.specs.Failures.{put_rising, rising}

-- The numbers are the same, in rising order.

IsPermutation-put : (n : ℕ) (ns : List ℕ) → IsPermutation (n ∷ ns) (put_rising n ns)
IsPermutation-put n [] = IsPermutation-refl (n ∷ [])
IsPermutation-put n (m ∷ ns) = by_test (nat_le n m) (IsPermutation-cons m (n ∷ ns) (put_rising n ns) (IsPermutation-put n ns))
  where
    by_test : (t : Bool) → IsPermutation (m ∷ n ∷ ns) (m ∷ put_rising n ns)
        → IsPermutation (n ∷ m ∷ ns) (cond t (n ∷ m ∷ ns) (m ∷ put_rising n ns))
    by_test true later = IsPermutation-refl (n ∷ m ∷ ns)
    by_test false later =
        IsPermutation-trans (n ∷ m ∷ ns) (m ∷ n ∷ ns) (m ∷ put_rising n ns) (IsPermutation-insert (m ∷ ns) 1 n) later

pub IsPermutation-rising : (ns : List ℕ) → IsPermutation ns (rising ns)
IsPermutation-rising [] = IsPermutation-refl []
IsPermutation-rising (n ∷ ns) =
    IsPermutation-trans (n ∷ ns) (n ∷ rising ns) (put_rising n (rising ns))
    (IsPermutation-cons n ns (rising ns) (IsPermutation-rising ns)) (IsPermutation-put n (rising ns))

-- no number is below the one before it, from this one on
abbrev pub Climb : ℕ → List ℕ → Type 0
Climb first [] = Unit {0}
Climb first (n ∷ ns) = (first ≤ n) × Climb n ns

Climb-put : (first n : ℕ) (ns : List ℕ) → first ≤ n → Climb first ns → Climb first (put_rising n ns)
Climb-put first n [] l h = (l, tt)
Climb-put first n (m ∷ ns) l h = grind (arith, nat_tests, Climb-put m n ns)

pub Climb-rising : (ns : List ℕ) → Climb 0 (rising ns)
Climb-rising [] = tt
Climb-rising (n ∷ ns) = Climb-put 0 n (rising ns) (omega arith) (Climb-rising ns)

Climb-tail : (n : ℕ) (ns : List ℕ) → IsNonDecreasing (n ∷ ns) → Climb n ns
Climb-tail n [] h = tt
Climb-tail n (m ∷ ns) h =
    (h zero (suc zero) 0 (omega arith) (omega arith), Climb-tail m ns (λ i j d l k. h (suc i) (suc j) d (omega arith) (omega arith)))

Climb-sorted : (ns : List ℕ) → IsNonDecreasing ns → Climb 0 ns
Climb-sorted [] h = tt
Climb-sorted (n ∷ ns) h = (omega arith, Climb-tail n ns h)

-- how often a number is there
abbrev pub count_of : ℕ → List ℕ → ℕ
count_of k ns = count_by (λ n. n == k) ns

count-cons : (k n : ℕ) (ns : List ℕ) → count_of k (n ∷ ns) ≡ cond (n == k) 1 0 + count_of k ns
count-cons k n ns = sum_by-cons (λ m. cond (m == k) 1 0) n ns

count-below : (k first : ℕ) (ns : List ℕ) → k < first → Climb first ns → count_of k ns ≡ 0
count-below k first [] l h = refl
count-below k first (n ∷ ns) l h = grind (arith, nat_tests, count-cons k n ns, count-below k n ns)

-- two lists that climb and have each number equally often are the same
same-counts : (a b : ℕ) (ns ms : List ℕ) → Climb a ns → Climb b ms → ((k : ℕ) → count_of k ns ≡ count_of k ms) → ns ≡ ms
same-counts a b [] [] h g e = refl
same-counts a b [] (m ∷ ms) h g e = grind (arith, nat_tests, count-cons m m ms, e m)
same-counts a b (n ∷ ns) [] h g e = grind (arith, nat_tests, count-cons n n ns, e n)
same-counts a b (n ∷ ns) (m ∷ ms) h g e =
    let low = count-below n m (m ∷ ms) in
    let high = count-below m n (n ∷ ns) in
    let same : n ≡ m = grind (arith, nat_tests, count-cons n n ns, count-cons m m ms, e n, e m) in
    let tails = same-counts n m ns ms h.1 g.1 (λ k. grind (arith, nat_tests, count-cons k n ns, count-cons k m ms, same, e k)) in
    cc

-- so what a sort of the numbers gives is `rising`
pub rising-sorted : (ns ms : List ℕ) → IsPermutation ns ms → IsNonDecreasing ms → ms ≡ rising ns
rising-sorted ns ms moved sorted =
    same-counts 0 0 ms (rising ns) (Climb-sorted ms sorted) (Climb-rising ns) (λ k.
    sum_by-IsPermutation (λ n. cond (n == k) 1 0) ns ms moved
    ∙ sym (sum_by-IsPermutation (λ n. cond (n == k) 1 0) ns (rising ns) (IsPermutation-rising ns)))
