-- An epoch that ended, as the record has it: so a step tells of it without a copy.
use Rattle.std.specs.Prelude.{ℕ, zero, suc, ◌+◌, List, [], ◌∷◌, take, drop}
use Rattle.pair_history.specs.Entries.{Entry}
use Rattle.pair_record.specs.Journal.{Journal}
use Rattle.growing_history.specs.Steps.{What}
use Rattle.pair_book.specs.declared.prepared.Prepared.{Prepared}
use Rattle.pair_book.specs.declared.prepared.Prepared.TheVariants as prepared
use Rattle.pair_book.specs.Submitting.{told_as}

abbrev pub last_of : List (List Entry) → List Entry
last_of [] = []
last_of (es ∷ []) = es
last_of (es ∷ fs ∷ ess) = last_of (fs ∷ ess)

-- behind the first `before` entries of the history, where it entered that; else the last one that was sealed
abbrev pub entered_there : Journal → ℕ → ℕ → ℕ → List Entry
entered_there j before arrivals steps = take (arrivals + steps) (drop before j.history)

abbrev pub sealed_there : ℕ → Journal → ℕ → ℕ → ℕ → List Entry
sealed_there zero j before arrivals steps = entered_there j before arrivals steps
sealed_there (suc n) j before arrivals steps = last_of j.sealed

abbrev pub epoch_there : Prepared → Journal → ℕ → ℕ → ℕ → List Entry
epoch_there prepared.Nothing j before arrivals steps = entered_there j before arrivals steps
epoch_there (prepared.Checkpoint c) j before arrivals steps = sealed_there c.number j before arrivals steps

abbrev pub found : Prepared → Journal → ℕ → ℕ → ℕ → What
found what j before arrivals steps = told_as what (epoch_there what j before arrivals steps)
