-- What the keeper of the history does, one step after another.
use Rattle.std.specs.Prelude.{◌≡◌, ℕ, ◌==◌, if◌then◌else◌, List, [], ◌∷◌, ◌++◌}
use Rattle.pair_history.specs.Entries.{Entry}

pub data What : Type 0 where
  -- entries of the clients' lines: what a client called, and what landed or was dropped
  Added : List Entry → What
  -- an epoch was sealed under this generation and number, with the text of its checkpoint
  Sealed : ℕ → ℕ → List Entry → List ℕ → What
  -- the live node ran alone
  RanAlone : List Entry → What
  -- the epoch of this generation and number was committed; this is the text that the backup read
  Committed : ℕ → ℕ → List ℕ → What
  PrimaryFailed : What
  BackupFailed : What
  -- the backup went live, with a runner of this number
  WentLive : ℕ → What
  -- the live node got a backup of this number
  Protected : ℕ → What

-- A step, and the number of the seat that made it; 0 is the keeper for itself.
pub record Step : Type 0 where
  pub by : ℕ
  pub what : What

abbrev pub step : ℕ → What → Step
step by what = record { by = by; what = what }

-- new is old, and then more
abbrev pub Begins : List Step → List Step → Type 0
Begins old new = (more : List Step) × (new ≡ old ++ more)

-- the steps that the seat of this number made
abbrev pub steps_by : ℕ → List Step → List Step
steps_by n [] = []
steps_by n (x ∷ xs) = if x.by == n then x ∷ steps_by n xs else steps_by n xs

-- the step of no call
abbrev pub no_step : Step
no_step = step 0 PrimaryFailed
