-- What a member misses from one list of steps to a longer one: it saw the first, its seat made no step since, and the second is legal.
use Rattle.std.specs.Prelude.{◌≡◌, ℕ, List}
use Rattle.pair_history.specs.HistoryState.{HistoryState}
use Rattle.growing_history.specs.LogState.{LegalSteps, state_at}
use Rattle.growing_history.specs.Steps.{Step, Begins, steps_by}

-- so it holds between these lists for the member of that number
abbrev pub WhileAway : ℕ → HistoryState → List Step → List Step → Type 0 → Type 0
WhileAway n h old now P = Begins old now → LegalSteps h now → steps_by n now ≡ steps_by n old → P

-- for one that is the live runner in both
abbrev pub WhileRunnerIsAway : ℕ → HistoryState → List Step → List Step → Type 0 → Type 0
WhileRunnerIsAway n h old now P = WhileAway n h old now ((state_at h old).runner ≡ n → (state_at h now).runner ≡ n → P)

-- and for one that is the backup in both
abbrev pub WhileBackupIsAway : ℕ → HistoryState → List Step → List Step → Type 0 → Type 0
WhileBackupIsAway n h old now P = WhileAway n h old now ((state_at h old).backup ≡ n → (state_at h now).backup ≡ n → P)
