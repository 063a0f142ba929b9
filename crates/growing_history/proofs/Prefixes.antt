-- Places of a list with one more at its end.
use Rattle.std.proofs.Common.{◌≡◌, ℕ, zero, suc, ◌+◌, ◌<◌, ◌⊎◌, inl, inr, List, [], ◌∷◌, ◌++◌, length, refl, sym, ap}
use Rattle.std.proofs.Common.{arith}
use mathlib.Core.Option.{some, some-injective, some-ne-none}
use lib.ListN.{get_elem?}

-- an element of a list with one more at its end
pub at_snoc_place : {A : Type 0} (l : List A) (a b : A) (j : ℕ) → get_elem? (l ++ a ∷ []) j ≡ some b
    → ((j < length l) × (get_elem? l j ≡ some b)) ⊎ ((j ≡ length l) × (a ≡ b))
at_snoc_place [] a b zero e = inr (refl, some-injective a b e)
at_snoc_place [] a b (suc j) e = absurd (some-ne-none b (sym e))
at_snoc_place (x ∷ xs) a b zero e = inl (omega arith, e)
at_snoc_place (x ∷ xs) a b (suc j) e = Rattle.std.proofs.Common.⊎_elim
    (λ (t : (j < length xs) × (get_elem? xs j ≡ some b)). inl (omega (arith, t.0), t.1))
    (λ (t : (j ≡ length xs) × (a ≡ b)). inr (ap suc t.0, t.1))
    (at_snoc_place xs a b j e)

-- a place that a list has is below its length
pub at_below : {A : Type 0} (l : List A) (j : ℕ) (b : A) → get_elem? l j ≡ some b → j < length l
at_below [] j b e = absurd (some-ne-none b (sym e))
at_below (x ∷ xs) zero b e = omega arith
at_below (x ∷ xs) (suc j) b e = omega (arith, at_below xs j b e)
