-- Which numbers stand in a list of written sectors.
use Rattle.block_device.{proofs.Rising.two_ways, specs.Dirty.{with_written, is_in}}
use Rattle.std.proofs.Common.{◌≡◌, ℕ, zero, suc, ◌+◌, Bool, true, false, ◌&&◌, ◌||◌, ◌==◌, inl, inr, List, [], ◌∷◌, ◌++◌, refl, sym, ap}
use Rattle.std.{proofs.{Common.{◌∙◌, nat_le, nat_lt, filter, cond, arith}, lemmas.Bool.Decides.nat_tests}, specs.List.range_with_len}

or_assoc : (a b c : Bool) → (a || (b || c)) ≡ ((a || b) || c)
or_assoc true b c = refl
or_assoc false b c = refl

in_append : (i : ℕ) (xs ys : List ℕ) → is_in i (xs ++ ys) ≡ (is_in i xs || is_in i ys)
in_append i [] ys = refl
in_append i (x ∷ xs) ys = ap (λ b. i == x || b) (in_append i xs ys) ∙ or_assoc (i == x) (is_in i xs) (is_in i ys)

-- one number more goes through a test, or not
step_kept : (e m q f : Bool) → f ≡ (m && q) → (e ≡ true → q ≡ true) → (e || f) ≡ ((e || m) && q)
step_kept true m q f h k = sym (k refl)
step_kept false m q f h k = h

and_false : (m q : Bool) → q ≡ false → (m && q) ≡ false
and_false true q h = h
and_false false q h = refl

step_lost : (e m q f : Bool) → f ≡ (m && q) → (e ≡ true → q ≡ false) → f ≡ ((e || m) && q)
step_lost true m q f h k = h ∙ (and_false m q (k refl) ∙ sym (k refl))
step_lost false m q f h k = h

same_number : (i x : ℕ) → (i == x) ≡ true → i ≡ x
same_number i x h = grind (arith, nat_tests)

in_filter : (p : ℕ → Bool) (i : ℕ) (xs : List ℕ) → is_in i (filter p xs) ≡ (is_in i xs && p i)
in_filter p i [] = refl
in_filter p i (x ∷ xs) =
    let rest = in_filter p i xs in
    elim (two_ways (p x)) [
      | inl h ↦ ap (λ b. is_in i (cond b (x ∷ filter p xs) (filter p xs))) h
          ∙ step_kept (i == x) (is_in i xs) (p i) (is_in i (filter p xs)) rest (λ e. ap p (same_number i x e) ∙ h)
      | inr h ↦ ap (λ b. is_in i (cond b (x ∷ filter p xs) (filter p xs))) h
          ∙ step_lost (i == x) (is_in i xs) (p i) (is_in i (filter p xs)) rest (λ e. ap p (same_number i x e) ∙ h)
    ]

no_number : (i a : ℕ) → false ≡ (nat_le a i && nat_lt i (a + 0))
no_number i a = grind (arith, nat_tests)

one_number : (i a n : ℕ) → (i == a || (nat_le (a + 1) i && nat_lt i (a + 1 + n))) ≡ (nat_le a i && nat_lt i (a + suc n))
one_number i a n = grind (arith, nat_tests)

in_range : (i a n : ℕ) → is_in i (range_with_len a n) ≡ (nat_le a i && nat_lt i (a + n))
in_range i a zero = no_number i a
in_range i a (suc n) = ap (λ b. i == a || b) (in_range i (a + 1) n) ∙ one_number i a n

three_parts : (m : Bool) (i first n : ℕ) → (((m && nat_lt i first) || (nat_le first i && nat_lt i (first + n)))
    || (m && nat_le (first + n) i)) ≡ (m || (nat_le first i && nat_lt i (first + n)))
three_parts true i first n = grind (arith, nat_tests)
three_parts false i first n = grind (arith, nat_tests)

pub in_written : (dirty : List ℕ) (first n i : ℕ) →
    is_in i (with_written dirty first n) ≡ (is_in i dirty || (nat_le first i && nat_lt i (first + n)))
in_written dirty first n i =
    let below : List ℕ = filter (λ k. nat_lt k first) dirty in
    let above : List ℕ = filter (λ k. nat_le (first + n) k) dirty in
    let range : List ℕ = range_with_len first n in
    in_append i (below ++ range) above
    ∙ (ap (λ b. b || is_in i above) (in_append i below range)
    ∙ (ap (λ b. (b || is_in i range) || is_in i above) (in_filter (λ k. nat_lt k first) i dirty)
    ∙ (ap (λ b. ((is_in i dirty && nat_lt i first) || b) || is_in i above) (in_range i first n)
    ∙ (ap (λ b. ((is_in i dirty && nat_lt i first) || (nat_le first i && nat_lt i (first + n))) || b)
    (in_filter (λ k. nat_le (first + n) k) i dirty)
    ∙ three_parts (is_in i dirty) i first n))))
