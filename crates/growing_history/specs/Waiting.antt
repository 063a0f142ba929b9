-- What waits once all that is under way has arrived: only deliveries and drops by the line change it. This is so whatever is marked.
use Rattle.std.specs.Prelude.{◌≡◌, ℕ, List}
use Rattle.pair_history.specs.Failures.{arrived_numbers}
use Rattle.pair_history.specs.HistoryState.{at}
use Rattle.pair_history.specs.Reached.{AreRising}
use Rattle.pair_history.specs.Waits.{AllWait, AreQuiet}
use Rattle.growing_history.specs.LogState.{LogState, under_way}
use Rattle.growing_history.specs.Steps.{What, Added, Sealed, RanAlone}

-- the numbers of the frames that are under way
abbrev pub taken : LogState → List ℕ
taken s = arrived_numbers (under_way s)

-- What is so of the state t after s, where nothing was delivered or dropped by the line.
pub record StillWait (s t : LogState) : Type 0 where
  pub number : t.history.number ≡ s.history.number
  pub rising : (first end : ℕ) → AreRising first end s.history.waiting → AreRising first end t.history.waiting
  pub there : AllWait (taken s) s.history.waiting → AllWait (taken t) t.history.waiting
  pub after : (at t.history (under_way t)).waiting ≡ (at s.history (under_way s)).waiting

-- the steps that neither deliver nor drop by the line, nor end an epoch
abbrev pub IsStill : What → Type 0
IsStill (Added es) = AreQuiet es
IsStill (Sealed g n epoch text) = ⊥
IsStill (RanAlone epoch) = ⊥
IsStill other = Unit {0}
