-- Laws of lists that are a part of another, in order.
use Rattle.std.proofs.Common.{◌∙◌, ℕ, zero, suc, List, [], ◌∷◌, ◌++◌, remove, refl, inl, inr}
use Rattle.pair_history.specs.Released.{IsPartOf}

module _ {X : Type 0} where
  part-later : (xs ys : List X) (y : X) → IsPartOf xs ys → IsPartOf xs (y ∷ ys)
  part-later [] ys y h = tt
  part-later (x ∷ xs) ys y h = inr h

  part-refl : (xs : List X) → IsPartOf xs xs
  part-refl [] = tt
  part-refl (x ∷ xs) = inl (refl, part-refl xs)

  pub part-trans : (xs ys zs : List X) → IsPartOf xs ys → IsPartOf ys zs → IsPartOf xs zs
  part-trans [] ys zs h k = tt
  part-trans (x ∷ xs) [] zs h k = absurd h
  part-trans (x ∷ xs) (y ∷ ys) [] h k = absurd k
  part-trans (x ∷ xs) (y ∷ ys) (z ∷ zs) (inl h) (inl k) = inl (h.0 ∙ k.0, part-trans xs ys zs h.1 k.1)
  part-trans (x ∷ xs) (y ∷ ys) (z ∷ zs) (inr h) (inl k) = inr (part-trans (x ∷ xs) ys zs h k.1)
  part-trans (x ∷ xs) (y ∷ ys) (z ∷ zs) h (inr k) = inr (part-trans (x ∷ xs) (y ∷ ys) zs h k)

  -- both with the same at the end
  pub part-append : (xs ys zs : List X) → IsPartOf xs ys → IsPartOf (xs ++ zs) (ys ++ zs)
  part-append [] [] zs h = part-refl zs
  part-append [] (y ∷ ys) zs h = part-later zs (ys ++ zs) y (part-append [] ys zs tt)
  part-append (x ∷ xs) [] zs h = absurd h
  part-append (x ∷ xs) (y ∷ ys) zs (inl h) = inl (h.0, part-append xs ys zs h.1)
  part-append (x ∷ xs) (y ∷ ys) zs (inr h) = inr (part-append (x ∷ xs) ys zs h)

  -- without an element
  pub part-remove : (xs ys : List X) (i : ℕ) → IsPartOf (xs ++ remove ys i) (xs ++ ys)
  part-remove (x ∷ xs) ys i = inl (refl, part-remove xs ys i)
  part-remove [] [] zero = tt
  part-remove [] [] (suc i) = tt
  part-remove [] (y ∷ ys) zero = part-later ys ys y (part-refl ys)
  part-remove [] (y ∷ ys) (suc i) = inl (refl, part-remove [] ys i)
