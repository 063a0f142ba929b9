-- What each seat knows, and the one fact about all of them and the word.
use Rattle.std.specs.Prelude.{◌≡◌, ℕ, ◌<◌, ◌≤◌, Bool, true, false, List, [], ◌∷◌, length, Option, None, Some}
use mathlib.Core.Option as plain
use lib.ListN.{get_elem?}
use Rattle.atomic_table.specs.Seated.{TableId}
use Rattle.atomic_table.specs.Table.{State}
use Rattle.pair_history.specs.HistoryState.{HistoryState, start_state}
use Rattle.growing_history.specs.Steps.{Step, Begins, steps_by}
use Rattle.growing_history.specs.LogState.{LegalSteps}

pub record View : Type 0 where
  -- where the history started, once the seats have been given out
  pub start : Option HistoryState
  -- the steps that it has seen, and those that the last seat joined into it had
  pub steps : List Step
  pub told : List Step
  -- whether it is the keeper's, and then how many numbers it has given out
  pub keeps : Bool
  pub enrolled : ℕ
  -- the number of its account, 0 if it has none, and the steps that were made under it
  pub number : ℕ
  pub mine : List Step

-- the word of no pair, and where none starts
abbrev pub no_table : TableId
no_table = record { words = 0; slots = 0; views_name = 0; atom = 0; block = 0; offset = 0; slot_names = [] }

abbrev pub no_start : HistoryState
no_start = start_state 0 0 [] 0

-- the view of the first seat, before it is known where the history starts
abbrev pub unopened : View
unopened = record { start = None; steps = []; told = []; keeps = true; enrolled = 0; number = 0; mine = [] }

-- what a seat that was joined into another is left with
abbrev pub nobody : View
nobody = record { start = None; steps = []; told = []; keeps = false; enrolled = 0; number = 0; mine = [] }

-- the keeper's, with no other seat joined into it, and steps that it made for itself since one was
abbrev pub keeper_view : HistoryState → ℕ → List Step → List Step → View
keeper_view h enrolled steps mine =
    record { start = Some h; steps = steps; told = []; keeps = true; enrolled = enrolled; number = 0; mine = mine }

-- a member's, which has that number
abbrev pub member_view : HistoryState → ℕ → List Step → List Step → View
member_view h number steps mine =
    record { start = Some h; steps = steps; told = []; keeps = false; enrolled = 0; number = number; mine = mine }

-- a badge's: it has seen the steps, and has no account
abbrev pub badge_view : HistoryState → List Step → View
badge_view h steps = member_view h 0 steps []

-- What the rule says of one view, the one at that place: it holds beginnings of the log, and of its number's steps all.
pub record Fits (start : Option HistoryState) (log : List Step) (keeper enrolled : ℕ) (owner : ℕ → ℕ) (place : ℕ) (v : View) : Type 0 where
  pub steps : Begins v.steps log
  pub told : Begins v.told log
  pub starts : (h : HistoryState) → v.start ≡ Some h → start ≡ Some h
  pub keeps : v.keeps ≡ true → (place ≡ keeper) × (v.start ≡ start) × (v.steps ≡ log) × (v.enrolled ≡ enrolled)
  pub mine : 0 < v.number → (owner v.number ≡ place) × (v.number ≤ enrolled) × (v.mine ≡ steps_by v.number log)

-- The rule. There is one log, which is legal and whose length is the word; one seat keeps it, each number that was given out is
-- one seat's, and numbers that weren't own nothing.
pub record Kept (words : List ℕ) (views : List View) : Type 0 where
  pub log : List Step
  pub start : Option HistoryState
  pub keeper : ℕ
  pub enrolled : ℕ
  pub owner : ℕ → ℕ
  pub fits : (place : ℕ) (v : View) → get_elem? views place ≡ plain.some v → Fits start log keeper enrolled owner place v
  pub word : words ≡ length log ∷ []
  pub legal : (h : HistoryState) → start ≡ Some h → LegalSteps h log
  pub fresh : (n : ℕ) → enrolled < n → steps_by n log ≡ []

abbrev pub Rule : {S : Type 0} → State S View → Type 0
Rule s = Kept s.words s.views

-- What contracts see of the keeper's seat: the log, and how many numbers it has given out.
pub record Keeper : Type 0 where
  pub steps : List Step
  pub enrolled : ℕ

-- What contracts see of a member's seat: its number, and the steps that it has seen. Its own steps are those of its number among them.
pub record Member : Type 0 where
  pub number : ℕ
  pub steps : List Step

-- the view that one seat has, which lies in a list of one
abbrev pub only_view : List View → View
only_view [] = nobody
only_view (v ∷ vs) = v

abbrev pub keeper_of : View → Keeper
keeper_of v = record { steps = v.steps; enrolled = v.enrolled }

abbrev pub member_in : List View → Member
member_in vs = record { number = (only_view vs).number; steps = (only_view vs).steps }

-- The seat's view is the keeper's, of a legal log.
pub record IsKeeper (start : HistoryState) (v : View) : Type 0 where
  pub is : v ≡ keeper_view start v.enrolled v.steps v.mine
  pub legal : LegalSteps start v.steps

-- The seat's view is a member's, who has seen a legal list, and in it all its own steps.
pub record IsMember (start : HistoryState) (vs : List View) : Type 0 where
  pub is : vs ≡ member_view start (only_view vs).number (only_view vs).steps (only_view vs).mine ∷ []
  pub mine : (only_view vs).mine ≡ steps_by (only_view vs).number (only_view vs).steps
  pub legal : LegalSteps start (only_view vs).steps
  pub numbered : 0 < (only_view vs).number

-- The seat's view is a badge's, who has seen a legal list.
pub record IsBadge (start : HistoryState) (vs : List View) : Type 0 where
  pub is : vs ≡ badge_view start (only_view vs).steps ∷ []
  pub legal : LegalSteps start (only_view vs).steps
