-- The table of refusals: the number and the name of the one that the gate gives.
use Rattle.std.specs.Prelude.{ℕ, List, codes}
use Rattle.output_gate.specs.declared.errors.GateError.{GateError}
use Rattle.output_gate.specs.declared.errors.GateError.TheVariants.{NoMemory}

abbrev pub number_of : GateError → ℕ
number_of (NoMemory _) = 12

abbrev pub name_of : GateError → List ℕ
name_of (NoMemory _) = codes "NoMemory"
