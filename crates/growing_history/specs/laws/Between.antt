-- Of two lists of steps of which one begins the other: what comes between them.
use Rattle.std.proofs.Common.{◌≡◌, ◌≢◌, ℕ, ◌+◌, List, [], ◌∷◌, ◌++◌, length, Bool, true, false, refl, sym, ap, ◌∙◌, subst, cond, arith}
use Rattle.std.proofs.Common.{length-append, eq-eqb, true≢false}
use Rattle.std.specs.Prelude.{◌==◌}
use Rattle.pair_history.specs.HistoryState.{HistoryState}
use Rattle.growing_history.specs.Steps.{Step, Begins, steps_by}
use Rattle.growing_history.specs.LogState.{start_of, state_after, LegalFrom, LegalSteps}
use Rattle.growing_history.specs.laws.Prefixes.{steps_by-append}
use Rattle.growing_history.specs.laws.Logs.{state-append, first, second}

-- where none of these steps is of that number, neither is the first nor any of the others
pub none-first : (n : ℕ) (x : Step) (xs : List Step) → steps_by n (x ∷ xs) ≡ [] → (x.by ≢ n) × (steps_by n xs ≡ [])
none-first n x xs e = by_test (x.by == n) refl e
  where
    by_test : (t : Bool) → (x.by == n) ≡ t → cond t (x ∷ steps_by n xs) (steps_by n xs) ≡ [] → (x.by ≢ n) × (steps_by n xs ≡ [])
    by_test true is e = absurd (cc)
    by_test false is e = ((λ same. absurd (true≢false (sym (eq-eqb x.by n same) ∙ is))), e)

none-more : (n : ℕ) (xs more : List Step) → steps_by n (xs ++ more) ≡ steps_by n xs → steps_by n more ≡ []
none-more n xs more e =
    let whole : steps_by n xs ++ steps_by n more ≡ steps_by n xs = sym (steps_by-append n xs more) ∙ e in
    let lens : length (steps_by n xs) + length (steps_by n more) ≡ length (steps_by n xs) = sym
    (length-append (steps_by n xs) (steps_by n more)) ∙ ap length whole in
    empty (steps_by n more) (omega (arith, lens))
  where
    empty : (l : List Step) → length l ≡ 0 → l ≡ []
    empty [] z = refl
    empty (x ∷ l) z = absurd (omega (arith, z))

-- and none of what comes between two lists that have the same steps of it
pub none-between : (n : ℕ) (old now : List Step) (b : Begins old now) → steps_by n now ≡ steps_by n old → steps_by n b.0 ≡ []
none-between n old now b own = none-more n old b.0 (subst (λ xs. steps_by n xs ≡ steps_by n old) b.1 own)

module _ (h : HistoryState) (old now : List Step) (b : Begins old now) where
  -- the state at the longer one
  pub same : state_after (start_of h) now ≡ state_after (state_after (start_of h) old) b.0
  same = ap (state_after (start_of h)) b.1 ∙ state-append (start_of h) old b.0

  -- both parts of a legal list are legal
  pub earlier : LegalSteps h now → LegalFrom (start_of h) old
  unfolding LegalSteps
  earlier l = first (start_of h) old b.0 (subst (LegalFrom (start_of h)) b.1 l)

  pub later : LegalSteps h now → LegalFrom (state_after (start_of h) old) b.0
  unfolding LegalSteps
  later l = second (start_of h) old b.0 (subst (LegalFrom (start_of h)) b.1 l)
