-- Two lists side by side: their parts, their positions one by one, and whether and how often they differ.
use Rattle.std.proofs.Common.{
  ◌≡◌,
  ℕ,
  ◌==◌,
  zero,
  suc,
  Bool,
  true,
  false,
  not,
  ◌||◌,
  List,
  [],
  ◌∷◌,
  length,
  take,
  drop,
  refl,
  sym,
  ◌∙◌,
  ap,
  arith,
  eqb-true,
  eq-eqb,
}
use Rattle.std.specs.Prelude.{◌↔◌}
use Rattle.std.specs.Simd.Lanes.{zip2}
use Rattle.page_lanes.specs.Kernels.{differ}

zip2-nil : {A B C : Type 0} (f : A → B → C) (xs : List A) → zip2 f xs [] ≡ []
zip2-nil f [] = refl
zip2-nil f (x ∷ xs) = refl

pub zip2-take : {A B C : Type 0} (f : A → B → C) (n : ℕ) (xs : List A) (ys : List B) →
    zip2 f (take n xs) (take n ys) ≡ take n (zip2 f xs ys)
zip2-take f zero xs ys = refl
zip2-take f (suc n) [] ys = refl
zip2-take f (suc n) (x ∷ xs) [] = refl
zip2-take f (suc n) (x ∷ xs) (y ∷ ys) = ap (λ l. f x y ∷ l) (zip2-take f n xs ys)

pub zip2-drop : {A B C : Type 0} (f : A → B → C) (n : ℕ) (xs : List A) (ys : List B) →
    zip2 f (drop n xs) (drop n ys) ≡ drop n (zip2 f xs ys)
zip2-drop f zero xs ys = refl
zip2-drop f (suc n) [] ys = refl
zip2-drop f (suc n) (x ∷ xs) [] = zip2-nil f (drop n xs)
zip2-drop f (suc n) (x ∷ xs) (y ∷ ys) = zip2-drop f n xs ys

-- the block of both at m
pub zip2-part : {A B C : Type 0} (f : A → B → C) (m n : ℕ) (xs : List A) (ys : List B) →
    zip2 f (take n (drop m xs)) (take n (drop m ys)) ≡ take n (drop m (zip2 f xs ys))
zip2-part f m n xs ys = zip2-take f n (drop m xs) (drop m ys) ∙ ap (take n) (zip2-drop f m xs ys)

-- two lists of one length that differ nowhere are equal, and a list doesn't differ from itself
pub differ-false : (xs ys : List ℕ) → length xs ≡ length ys → differ xs ys ≡ false → xs ≡ ys
differ-false [] [] _ _ = refl
differ-false [] (y ∷ ys) e _ = absurd (omega (arith, e))
differ-false (x ∷ xs) [] e _ = absurd (omega (arith, e))
differ-false (x ∷ xs) (y ∷ ys) e h = at_head (x == y) refl h (λ rest. differ-false xs ys (omega (arith, e)) rest)
  where
    at_head : (b : Bool) → (x == y) ≡ b → (not b || differ xs ys) ≡ false → (differ xs ys ≡ false → xs ≡ ys) → x ∷ xs ≡ y ∷ ys
    at_head true same rest tail = ap (λ z. z ∷ xs) (eqb-true x y same) ∙ ap (λ l. y ∷ l) (tail rest)
    at_head false same rest tail = cc

pub differ-same : (xs : List ℕ) → differ xs xs ≡ false
differ-same [] = refl
differ-same (x ∷ xs) = ap (λ b. not b || differ xs xs) (eq-eqb x x refl) ∙ differ-same xs

-- a flag that says whether two lists of one length differ
pub differ-tells : (xs ys : List ℕ) (b : Bool) → length xs ≡ length ys → b ≡ differ xs ys → (b ≡ true) ↔ (xs ≡ ys → ⊥)
differ-tells xs ys b e says = (
  λ yes same.
      let differs : differ xs ys ≡ true = sym says ∙ yes in
      let not_itself : differ xs ys ≡ false = ap (λ l. differ xs l) (sym same) ∙ differ-same xs in
      cc,
  λ unequal. elim b as (λ v. v ≡ differ xs ys → v ≡ true) [
    | true ↦ λ _. refl
    | false ↦ λ no. absurd (unequal (differ-false xs ys e (sym
        no)))
  ] says,
)
