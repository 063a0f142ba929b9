-- The table of refusals: the number and the name of each that the ports give.
use Rattle.std.specs.Prelude.{ℕ, List, codes}
use Rattle.frame_ports.specs.declared.errors.PortError.{PortError}
use Rattle.frame_ports.specs.declared.errors.PortError.TheVariants.{Full, BadFrame, NoClient, NoMemory, Exhausted}

abbrev pub number_of : PortError → ℕ
number_of Full = 1
number_of BadFrame = 2
number_of NoClient = 3
number_of (NoMemory _) = 12
number_of Exhausted = 14

abbrev pub name_of : PortError → List ℕ
name_of Full = codes "Full"
name_of BadFrame = codes "BadFrame"
name_of NoClient = codes "NoClient"
name_of (NoMemory _) = codes "NoMemory"
name_of Exhausted = codes "Exhausted"
