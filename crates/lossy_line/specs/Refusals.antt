-- The table of refusals: the number and the name of the one that a line gives.
use Rattle.std.specs.Prelude.{ℕ, List, codes}
use Rattle.lossy_line.specs.declared.errors.LineError.{LineError}
use Rattle.lossy_line.specs.declared.errors.LineError.TheVariants.{NoMemory}

abbrev pub number_of : LineError → ℕ
number_of (NoMemory _) = 12

abbrev pub name_of : LineError → List ℕ
name_of (NoMemory _) = codes "NoMemory"
