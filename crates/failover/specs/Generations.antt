-- A generation of the pair: its number, and the mode that its holder is in. What each call makes of it is the state table's row.
use Rattle.std.specs.Prelude.{ℕ, ◌+◌, ◌≤◌, ◌<◌, Result, Ok, Err, if◌then◌else◌, nat_lt}
use Rattle.failover.specs.declared.mode.Mode.{Mode}
use Rattle.failover.specs.declared.mode.Mode.TheVariants.{Paired, Filling}
use Rattle.failover.specs.declared.change.Change.{Change}
use Rattle.failover.specs.declared.errors.FailoverError.{FailoverError}
use Rattle.failover.specs.declared.errors.GenerationError.{GenerationError}
use Rattle.failover.specs.declared.errors.GenerationError.TheVariants.{Refused, Exhausted}
use Rattle.failover.specs.Changes.{row}

-- numbers of generations are below 2^62, as all numbers of the pair
abbrev pub generation_limit : ℕ
generation_limit = 4611686018427387904

pub record GenerationState : Type 0 where
  pub number : ℕ
  pub mode : Mode

-- what is true of every generation
pub record IsGeneration (g : GenerationState) : Type 0 where
  pub first : 1 ≤ g.number
  pub last : g.number < generation_limit

-- a pair begins with the first, and a standby with the one that it is told to wait for
abbrev pub first_generation : GenerationState
first_generation = record { number = 1; mode = Paired }

abbrev pub told_generation : ℕ → GenerationState
told_generation number = record { number = number; mode = Filling }

-- by its row, a change refuses a generation, or leads to the next one, if there is a number for it
abbrev pub raised : ℕ → Result (Mode × ℕ) FailoverError → Result GenerationState GenerationError
raised number (Err why) = Err (Refused why)
raised number (Ok (mode, raise)) =
    if nat_lt (number + raise) generation_limit then Ok (record { number = number + raise; mode = mode }) else Err Exhausted

abbrev pub after_change : Change → GenerationState → Result GenerationState GenerationError
after_change change g = raised g.number (row change g.mode)

-- a refusal hands the generation back
abbrev pub handed : GenerationState → Result GenerationState GenerationError → Result GenerationState (GenerationState × GenerationError)
handed g (Ok next) = Ok next
handed g (Err why) = Err (g, why)

abbrev pub spent : Change → GenerationState → Result GenerationState (GenerationState × GenerationError)
spent change g = handed g (after_change change g)
