-- The first generation: nobody has gone live or was protected yet, and only the first backup commits.
use Rattle.std.specs.Prelude.{◌≡◌, ℕ, List, [], ◌∷◌, ◌++◌}
use Rattle.pair_history.specs.Entries.{Entry}
use Rattle.pair_history.specs.HistoryState.{HistoryState}
use Rattle.growing_history.specs.LogState.{first_backup, state_at}
use Rattle.growing_history.specs.Steps.{Sealed, Committed, Step, step, steps_by}

-- no commit of the first generation is marked
abbrev pub AreUnmarked : HistoryState → List Step → Type 0
AreUnmarked h xs = (state_at h xs).generation ≡ 1 → (state_at h xs).marked ≡ 0

-- The first backup commits a text that was sealed under that generation and number in what it had seen: it has seen what came between, and
-- then its own step, which is the only one of its own since.
pub record CommitsSealed (old now : List Step) : Type 0 where
  pub generation : ℕ
  pub number : ℕ
  pub text : List ℕ
  pub by : ℕ
  pub epoch : List Entry
  pub before : List Step
  pub later : List Step
  pub between : List Step
  pub sealed : old ≡ before ++ step by (Sealed generation number epoch text) ∷ later
  pub is : now ≡ (old ++ between) ++ step first_backup (Committed generation number text) ∷ []
  pub own : steps_by first_backup now ≡ steps_by first_backup old ++ step first_backup (Committed generation number text) ∷ []
