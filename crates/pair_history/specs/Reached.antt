-- What is so of every state that a legal history leads to, from where a pair starts.
use Rattle.std.specs.Prelude.{ℕ, ◌+◌, ◌≤◌, List, [], ◌∷◌, length}
use Rattle.pair_history.specs.Entries.{Frame}
use Rattle.pair_history.specs.HistoryState.{HistoryState, Waiting}
use Rattle.pair_history.specs.Landings.{BoxesFit}

-- the numbers of what waits rise, from the first number to below the end
abbrev pub AreRising : ℕ → ℕ → List Waiting → Type 0
AreRising first end [] = first ≤ end
AreRising first end (x ∷ xs) = (first ≤ x.number) × AreRising (x.number + 1) end xs

-- each frame is for one of that many clients
abbrev pub AllClients : ℕ → List (ℕ × Frame) → Type 0
AllClients n [] = Unit {0}
AllClients n (p ∷ ps) = (1 ≤ p.0) × (p.0 ≤ n) × AllClients n ps

pub record IsReached (s : HistoryState) : Type 0 where
  -- the frames that wait have rising numbers, all below the next one
  pub rising : AreRising 1 s.number s.waiting
  -- each frame on its way is for a client that there is
  pub clients : AllClients (length s.boxes) s.out
  -- no box holds more than it has room for
  pub fit : BoxesFit s.boxes
