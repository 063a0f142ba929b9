-- What a call makes of what a member's seat has seen.
use Rattle.std.specs.Prelude.{◌≡◌, ℕ, List, [], ◌∷◌, ◌++◌}
use Rattle.pair_history.specs.HistoryState.{HistoryState}
use Rattle.growing_history.specs.Steps.{What, Step, step, Begins, steps_by}
use Rattle.growing_history.specs.LogState.{LegalSteps}

-- The seat of that number made this step: what it has seen is a legal list, which begins with what it had seen and ends with the step,
-- and its own steps are those before and this one.
pub record MakesStep (start : HistoryState) (number : ℕ) (what : What) (old new : List Step) : Type 0 where
  pub legal : LegalSteps start new
  pub seen : (between : List Step) × (new ≡ (old ++ between) ++ step number what ∷ [])
  pub own : steps_by number new ≡ steps_by number old ++ step number what ∷ []

-- The seat of that number looked: what it has seen is a legal list, which begins with what it had seen; and its own steps are those before.
pub record Looks (start : HistoryState) (number : ℕ) (old new : List Step) : Type 0 where
  pub legal : LegalSteps start new
  pub seen : Begins old new
  pub own : steps_by number new ≡ steps_by number old

-- A seat that was given out by this step, which is no member's: it has seen a legal list, which ends with the step.
pub record SeesLast (start : HistoryState) (what : What) (seen : List Step) : Type 0 where
  pub legal : LegalSteps start seen
  pub last : (before : List Step) × (seen ≡ before ++ step 0 what ∷ [])
