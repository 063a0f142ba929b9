-- Ranges of numbers, and what a test keeps of them.
use Rattle.std.proofs.Common.{◌≡◌, ℕ, zero, suc, ◌+◌, ◌<◌, ◌≤◌, Bool, true, false, cond, List, ◌∷◌, ◌++◌, map, refl, sym, ap, ◌∙◌, arith}
use Rattle.std.specs.List.{range_with_len, filter}

-- a longer range is a range and the one after it
pub range-append : (a m n : ℕ) → range_with_len a (m + n) ≡ range_with_len a m ++ range_with_len (a + m) n
range-append a zero n =
    let e : zero + n ≡ n = omega arith in
    let f : a + zero ≡ a = omega arith in
    ap (range_with_len a) e ∙ sym (ap (λ k. range_with_len k n) f)
range-append a (suc m) n =
    let e : suc m + n ≡ suc (m + n) = omega arith in
    let f : (a + 1) + m ≡ a + suc m = omega arith in
    ap (range_with_len a) e
    ∙ ap (λ l. a ∷ l) (range-append (a + 1) m n ∙ ap (λ k. range_with_len (a + 1) m ++ range_with_len k n) f)

filter_step : (b c : Bool) (a : ℕ) (xs ys : List ℕ) → b ≡ c → xs ≡ ys → cond b (a ∷ xs) xs ≡ cond c (a ∷ ys) ys
filter_step b c a xs ys e f = λ i. cond (e i) (a ∷ f i) (f i)

-- two tests that agree on a range keep the same of it
pub filter_agree_in : (p q : ℕ → Bool) (a n : ℕ) → ((i : ℕ) → a ≤ i → i < a + n → p i ≡ q i) →
    filter p (range_with_len a n) ≡ filter q (range_with_len a n)
filter_agree_in p q a zero agree = refl
filter_agree_in p q a (suc n) agree =
    filter_step (p a) (q a) a (filter p (range_with_len (a + 1) n)) (filter q (range_with_len (a + 1) n))
    (agree a (omega arith) (omega arith))
    (filter_agree_in p q (a + 1) n (λ i low high. agree i (omega arith) (omega arith)))

shift_step : (b : Bool) (a i : ℕ) (xs ys : List ℕ) → map (λ j. a + j) xs ≡ ys →
    map (λ j. a + j) (cond b (i ∷ xs) xs) ≡ cond b ((a + i) ∷ ys) ys
shift_step true a i xs ys e = ap (λ l. (a + i) ∷ l) e
shift_step false a i xs ys e = e

-- what a test keeps of a range, counted from elsewhere
pub filter-shift : (p : ℕ → Bool) (a b n : ℕ) → map (λ i. a + i) (filter (λ i. p (a + i)) (range_with_len b n)) ≡
    filter p (range_with_len (a + b) n)
filter-shift p a b zero = refl
filter-shift p a b (suc n) =
    let e : a + (b + 1) ≡ (a + b) + 1 = omega arith in
    shift_step (p (a + b)) a b (filter (λ i. p (a + i)) (range_with_len (b + 1) n)) (filter p (range_with_len (a + b + 1) n))
    (filter-shift p a (b + 1) n ∙ ap (λ k. filter p (range_with_len k n)) e)
