-- The table of refusals: the number and the name of each that the pair gives.
use Rattle.std.specs.Prelude.{ℕ, List, codes}
use Rattle.pair_record.specs.declared.event.Refusal.{Refusal}
use Rattle.pair_record.specs.declared.event.Refusal.TheVariants.{Full, BadFrame, NoClient, Stopped, Behind, NotPaired}
use Rattle.pair_record.specs.declared.event.Refusal.TheVariants.{AlreadyPaired, NoImage, Stale, Gap, NoMemory, CutNeeded}
use Rattle.pair_record.specs.declared.event.Refusal.TheVariants.{Exhausted, OldVersion}

abbrev pub number_of : Refusal → ℕ
number_of Full = 1
number_of BadFrame = 2
number_of NoClient = 3
number_of Stopped = 4
number_of Behind = 5
number_of NotPaired = 6
number_of AlreadyPaired = 7
number_of NoImage = 8
number_of Stale = 9
number_of Gap = 10
number_of (NoMemory _) = 12
number_of CutNeeded = 13
number_of Exhausted = 14
number_of OldVersion = 15

abbrev pub name_of : Refusal → List ℕ
name_of Full = codes "Full"
name_of BadFrame = codes "BadFrame"
name_of NoClient = codes "NoClient"
name_of Stopped = codes "Stopped"
name_of Behind = codes "Behind"
name_of NotPaired = codes "NotPaired"
name_of AlreadyPaired = codes "AlreadyPaired"
name_of NoImage = codes "NoImage"
name_of Stale = codes "Stale"
name_of Gap = codes "Gap"
name_of (NoMemory _) = codes "NoMemory"
name_of CutNeeded = codes "CutNeeded"
name_of Exhausted = codes "Exhausted"
name_of OldVersion = codes "OldVersion"
