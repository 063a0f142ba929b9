-- What contracts see of a history's entries as they are read: those that are left, and how many items they are.
use Rattle.std.specs.Prelude.{◌≡◌, ℕ, List, [], ◌++◌, Option, MatchOption}
use Rattle.pair_history.specs.Entries as whole
use Rattle.pair_history.specs.Log.{expanded}
use Rattle.pair_history.specs.declared.history.Entry.{Entry}

pub record Unread : Type 0 where
  pub left : List whole.Entry
  pub stored : ℕ

-- the item that is read stands for the first of what was left; without one nothing is left
abbrev pub Reads : Unread → Option Entry → Unread → Type 0
Reads s item t = MatchOption item ((s.left ≡ []) × (t.left ≡ [])) (λ e. s.left ≡ expanded e ++ t.left)
