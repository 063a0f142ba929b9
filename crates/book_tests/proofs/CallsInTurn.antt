-- The two clients' calls are legal.
use Rattle.std.proofs.Common.{◌≡◌, ℕ, List, [], ◌∷◌, ◌++◌, None, refl, sym, subst, arith}
use Rattle.pair_history.specs.Entries as entries
use Rattle.pair_history.specs.HistoryState.{HistoryState}
use Rattle.growing_history.specs.Steps.{Step, step, Added}
use Rattle.growing_history.specs.LogState.{LegalSteps}
use Rattle.growing_history.specs.Examples.{two_clients, found_empty}

one-legal : LegalSteps two_clients (found_empty 1 ∷ [])
unfolding LegalSteps
one-legal = (record { may = (refl, tt); known = λ e. (tt, tt); lawful = λ e. (((omega arith, omega arith), refl), tt) }, tt)

two-legal : LegalSteps two_clients (found_empty 1 ∷ found_empty 2 ∷ [])
unfolding LegalSteps
two-legal = (
  record { may = (refl, tt); known = λ e. (tt, tt); lawful = λ e. (((omega arith, omega arith), refl), tt) },
  (record { may = (refl, tt); known = λ e. (tt, tt); lawful = λ e. (((omega arith, omega arith), refl), tt) }, tt),
)

pub first-legal : (start : HistoryState) (steps : List Step) (n : ℕ) → start ≡ two_clients → steps ≡ [] → n ≡ 4
    → LegalSteps start (steps ++ step n (Added (entries.Took 1 None ∷ [])) ∷ [])
first-legal start steps n is none first =
    subst (λ (x : HistoryState × List Step × ℕ). LegalSteps x.0 (x.1 ++ step x.2 (Added (entries.Took 1 None ∷ [])) ∷ []))
    (λ i. (sym is i, sym none i, sym first i)) one-legal

pub second-legal : (start : HistoryState) (steps : List Step) (n : ℕ) → start ≡ two_clients → steps ≡ found_empty 1 ∷ [] → n ≡ 5
    → LegalSteps start (steps ++ step n (Added (entries.Took 2 None ∷ [])) ∷ [])
second-legal start steps n is one second =
    subst (λ (x : HistoryState × List Step × ℕ). LegalSteps x.0 (x.1 ++ step x.2 (Added (entries.Took 2 None ∷ [])) ∷ []))
    (λ i. (sym is i, sym one i, sym second i)) two-legal
