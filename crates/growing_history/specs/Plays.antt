-- What each atomic step on the word tells the seat that makes it.
use Rattle.std.specs.Prelude.{◌≡◌, ℕ, ◌+◌, ◌<◌, ◌≤◌, false, List, [], ◌∷◌, ◌++◌, length, Some}
use Rattle.atomic_table.specs.Table as table
use Rattle.pair_history.specs.HistoryState.{HistoryState}
use Rattle.growing_history.specs.Steps.{Step, Begins, steps_by}
use Rattle.growing_history.specs.LogState.{LegalSteps}
use Rattle.growing_history.specs.Views.{View, keeper_view}

-- a seat that holds no slot, as none here does
abbrev pub Me : Type 0 → Type 0
Me S = table.Me S View

-- The first seat gets to know where the history starts.
abbrev pub Opens : HistoryState → View → ℕ → View → Type 0
Opens h v found w = w ≡ keeper_view h 0 [] []

-- the keeper gives out the next number, to a seat that has seen what it has
abbrev pub one_more : View → View
one_more v = record v { enrolled = v.enrolled + 1 }

abbrev pub newcomer : View → View
newcomer v = record v { told = []; keeps = false; enrolled = 0; number = v.enrolled + 1; mine = [] }

-- the keeper with a member's seat joined into it, and without it again
abbrev pub with_member : View → View → View
with_member v w = record v { told = w.steps; number = w.number; mine = w.mine }

abbrev pub without_member : View → View
without_member v = record v { told = []; number = 0; mine = [] }

abbrev pub member_of : View → View
member_of v = record v { told = []; keeps = false; enrolled = 0 }

-- What a look at the log tells the keeper: the word is the log's length, and numbers that it hasn't given out own nothing. Of the
-- seat joined into its own: what that had seen is a beginning of the log, and its own steps in the log are those that it made.
pub record Meets (v : View) (found : ℕ) : Type 0 where
  pub word : found ≡ length v.steps
  pub fresh : (n : ℕ) → v.enrolled < n → steps_by n v.steps ≡ []
  pub told : Begins v.told v.steps
  pub mine : 0 < v.number → (v.number ≤ v.enrolled) × (v.mine ≡ steps_by v.number v.steps)

-- the keeper looks
abbrev pub Met : View → ℕ → View → Type 0
Met v found w = (w ≡ v) × Meets v found

-- the keeper's step, of the number that it has by the joined seat
abbrev pub stepped : Step → View → View
stepped x v = record v { steps = v.steps ++ x ∷ []; mine = v.mine ++ x ∷ [] }

abbrev pub Counted : Step → View → ℕ → View → Type 0
Counted x v found w = (w ≡ stepped x v) × Meets v found

-- another seat has seen the whole log
abbrev pub saw : View → List Step → View
saw v steps = record v { steps = steps; told = [] }

pub record Looks (v : View) (found : ℕ) (w : View) : Type 0 where
  pub now : w ≡ saw v w.steps
  pub word : found ≡ length w.steps
  pub steps : Begins v.steps w.steps
  pub told : Begins v.told w.steps
  pub mine : 0 < v.number → v.mine ≡ steps_by v.number w.steps
  pub legal : (h : HistoryState) → v.start ≡ Some h → LegalSteps h w.steps

-- a seat's badge, which has seen what it has; and a seat that heard of it
abbrev pub badge_of : View → View
badge_of v = record v { told = []; keeps = false; enrolled = 0; number = 0; mine = [] }

abbrev pub heard : View → View → View
heard v w = record v { told = w.steps }
