-- The numbers of what is sealed: the epochs follow one another up to the next checkpoint's, and a node that is alone has none.
use Rattle.std.specs.Prelude.{◌≡◌, ℕ, ◌+◌, List, [], ◌∷◌, length}
use Rattle.growing_history.specs.LogState.{LogState, Epoch, IsAlone}

-- the epochs have consecutive numbers from n on
abbrev pub FollowFrom : ℕ → List Epoch → Type 0
FollowFrom n [] = Unit {0}
FollowFrom n (e ∷ es) = (e.number ≡ n) × FollowFrom (n + 1) es

pub record AreSealed (s : LogState) : Type 0 where
  pub first : ℕ
  pub numbers : FollowFrom first s.sealed
  pub count : first + length s.sealed ≡ s.next
  pub alone : IsAlone s.mode → s.sealed ≡ []
