-- The least number of a list that isn't below a bound.
use Rattle.std.specs.Prelude.{◌≡◌, ℕ, ◌<◌, ◌≤◌, List, slice_index, ◌⊎◌, Contains}

-- among the first numbers of a list, as many as `index`, the least that is at least `from`, or `end` where each of these is `end` or more
pub record IsLeast (numbers : List ℕ) (from end index least : ℕ) : Type 0 where
  pub first : from ≤ least
  pub last : least ≤ end
  pub found : (least ≡ end) ⊎ Contains numbers least
  pub below : (k : ℕ) → k < index → from ≤ slice_index numbers k → least ≤ slice_index numbers k
