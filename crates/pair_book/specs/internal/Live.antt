-- Whose seats are live, beside the keeper's list.
use Rattle.std.specs.Prelude.{◌≡◌, ℕ, ◌+◌, ◌≤◌, length}
use Rattle.pair_history.specs.HistoryState.{HistoryState}
use Rattle.growing_history.specs.Steps.{What, WentLive, Protected}
use Rattle.growing_history.specs.LogState.{state_at, client_seat}
use Rattle.growing_history.specs.Views.{Keeper}

-- How many numbers were given out beside one in each generation: at most 16 clients', the line's, and those of the first runner and backup,
-- which had theirs in the first generation.
abbrev pub first_numbers : ℕ
first_numbers = 18

-- The live runner's and the backup's numbers are those of the steps; these and every client's were given out, and not many more.
pub record AreLive (start : HistoryState) (keeper : Keeper) (r b : ℕ) : Type 0 where
  pub runner : (state_at start keeper.steps).runner ≡ r
  pub backup : (state_at start keeper.steps).backup ≡ b
  pub given : (r ≤ keeper.enrolled) × (b ≤ keeper.enrolled) × (client_seat (length start.boxes) ≤ keeper.enrolled)
  pub few : keeper.enrolled ≤ (state_at start keeper.steps).generation + first_numbers

-- a step after which nobody else is live
abbrev pub LeavesLive : What → Type 0
LeavesLive (WentLive r) = ⊥
LeavesLive (Protected b) = ⊥
LeavesLive other = Unit {0}
