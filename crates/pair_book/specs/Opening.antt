-- A pair's book at its start.
use Rattle.std.specs.Prelude.{◌≡◌, ℕ, List}
use Rattle.atomic_table.specs.Seated.{TableId}
use Rattle.pair_history.specs.HistoryState.{HistoryState, start_state}

-- a book without a name: its word, and how many clients there are
pub record Unnamed : Type 0 where
  pub word : TableId
  pub clients : ℕ

abbrev pub unnamed : TableId → ℕ → Unnamed
unnamed word clients = record { word = word; clients = clients }

-- the history starts with some guest at boot, and an empty box for each client
pub record IsBoot (start : HistoryState) (clients : ℕ) : Type 0 where
  pub pages : ℕ
  pub sectors : ℕ
  pub image : List ℕ
  pub is : start ≡ start_state pages sectors image clients
