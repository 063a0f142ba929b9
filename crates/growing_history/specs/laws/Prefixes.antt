-- Beginnings of a list of steps, and the steps of one number in it.
use Rattle.std.proofs.Common.{◌≡◌, ◌≢◌, ℕ, List, [], ◌∷◌, ◌++◌, refl, sym, ap, ◌∙◌, subst, cond, append_assoc, Bool, true, false, eq-eqb}
use Rattle.std.proofs.Common.{ne_eqb}
use Rattle.std.specs.Prelude.{◌==◌}
use Rattle.std.proofs.lemmas.List.{append-nil}
use Rattle.growing_history.specs.Steps.{Step, Begins, steps_by}

-- a list begins itself, what goes on, and what another goes on
pub begins-self : (xs : List Step) → Begins xs xs
begins-self xs = ([], sym (append-nil xs))

pub begins-nil : (xs : List Step) → Begins [] xs
begins-nil xs = (xs, refl)

pub begins-more : (xs ys zs : List Step) → Begins xs ys → Begins xs (ys ++ zs)
begins-more xs ys zs b = (b.0 ++ zs, ap (λ l. l ++ zs) b.1 ∙ append_assoc xs b.0 zs)

pub begins-through : (xs ys zs : List Step) → Begins xs ys → Begins ys zs → Begins xs zs
begins-through xs ys zs b c = subst (Begins xs) (sym c.1) (begins-more xs ys c.0 b)

-- the steps of one number, in two parts
pub steps_by-append : (n : ℕ) (xs ys : List Step) → steps_by n (xs ++ ys) ≡ steps_by n xs ++ steps_by n ys
steps_by-append n [] ys = refl
steps_by-append n (x ∷ xs) ys = by_test (x.by == n) (steps_by-append n xs ys)
  where
    by_test : (t : Bool) → steps_by n (xs ++ ys) ≡ steps_by n xs ++ steps_by n ys
        → cond t (x ∷ steps_by n (xs ++ ys)) (steps_by n (xs ++ ys)) ≡ cond t (x ∷ steps_by n xs) (steps_by n xs) ++ steps_by n ys
    by_test true e = ap (λ l. x ∷ l) e
    by_test false e = e

-- a further step is one more of its own number's, and of no other's
pub steps_by-own : (n : ℕ) (xs : List Step) (x : Step) → x.by ≡ n → steps_by n (xs ++ x ∷ []) ≡ steps_by n xs ++ x ∷ []
steps_by-own n xs x is = steps_by-append n xs (x ∷ []) ∙ ap (λ t. steps_by n xs ++ cond t (x ∷ []) []) (eq-eqb x.by n is)

pub steps_by-other : (n : ℕ) (xs : List Step) (x : Step) → x.by ≢ n → steps_by n (xs ++ x ∷ []) ≡ steps_by n xs
steps_by-other n xs x isnt =
    steps_by-append n xs (x ∷ []) ∙ (ap (λ t. steps_by n xs ++ cond t (x ∷ []) []) (ne_eqb x.by n isnt) ∙ append-nil (steps_by n xs))
