-- The table of refusals: the number and the name of each that a change gives.
use Rattle.std.specs.Prelude.{ℕ, List, codes}
use Rattle.failover.specs.declared.errors.FailoverError.{FailoverError}
use Rattle.failover.specs.declared.errors.FailoverError.TheVariants.{Stopped, NotPaired, AlreadyPaired, NoImage}
use Rattle.failover.specs.declared.errors.GenerationError.{GenerationError}
use Rattle.failover.specs.declared.errors.GenerationError.TheVariants.{Refused, Exhausted}

abbrev pub number_of : FailoverError → ℕ
number_of Stopped = 4
number_of NotPaired = 6
number_of AlreadyPaired = 7
number_of NoImage = 8

abbrev pub name_of : FailoverError → List ℕ
name_of Stopped = codes "Stopped"
name_of NotPaired = codes "NotPaired"
name_of AlreadyPaired = codes "AlreadyPaired"
name_of NoImage = codes "NoImage"

-- and those of a generation that isn't spent
abbrev pub generation_number_of : GenerationError → ℕ
generation_number_of (Refused why) = number_of why
generation_number_of Exhausted = 14

abbrev pub generation_name_of : GenerationError → List ℕ
generation_name_of (Refused why) = name_of why
generation_name_of Exhausted = codes "Exhausted"
