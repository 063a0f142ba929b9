-- The table of refusals: the number and the name of each that a disk gives.
use Rattle.std.specs.Prelude.{ℕ, List, codes}
use Rattle.block_device.specs.declared.errors.DiskError.{DiskError}
use Rattle.block_device.specs.declared.errors.DiskError.TheVariants.{NoMemory}

abbrev pub error_number : DiskError → ℕ
error_number (NoMemory _) = 12

abbrev pub error_name : DiskError → List ℕ
error_name (NoMemory _) = codes "NoMemory"
