-- A list that grows by what is made of each item of another.
use Rattle.std.proofs.Common.{◌≡◌, List, [], ◌∷◌, ◌++◌, map, sym, ap, ◌∙◌, append_assoc}

module _ {A B : Type 0} (f : A → B) where
  -- one more
  pub listed-on : (before after all : List B) (left rest : List A) (x : A) → left ≡ x ∷ rest → before ++ map f left ≡ all
      → after ≡ before ++ f x ∷ [] → after ++ map f rest ≡ all
  listed-on before after all left rest x is so more =
      ap (λ ys. ys ++ map f rest) more
      ∙ (append_assoc before (f x ∷ []) (map f rest) ∙ (ap (λ xs. before ++ map f xs) (sym is) ∙ so))
