-- Refusals of a machine, with number and name in the table of all refusals.
use Rattle.std.specs.Prelude.{ℕ, List, codes}
use Rattle.guest_machine.specs.declared.errors.MachineError.{MachineError}
use Rattle.guest_machine.specs.declared.errors.MachineError.TheVariants.{NoMemory, CutNeeded}

abbrev pub error_number : MachineError → ℕ
error_number (NoMemory _) = 12
error_number CutNeeded = 13

abbrev pub error_name : MachineError → List ℕ
error_name (NoMemory _) = codes "NoMemory"
error_name CutNeeded = codes "CutNeeded"
