-- The table of refusals: the numbers and the names of those that an image gives.
use Rattle.std.specs.Prelude.{ℕ, List, codes}
use Rattle.backup_image.specs.declared.errors.ImageError.{ImageError}
use Rattle.backup_image.specs.declared.errors.ImageError.TheVariants.{NoImage, Stale, Gap, NoMemory, Exhausted, OldVersion}

abbrev pub number_of : ImageError → ℕ
number_of NoImage = 8
number_of Stale = 9
number_of Gap = 10
number_of (NoMemory _) = 12
number_of Exhausted = 14
number_of OldVersion = 15

abbrev pub name_of : ImageError → List ℕ
name_of NoImage = codes "NoImage"
name_of Stale = codes "Stale"
name_of Gap = codes "Gap"
name_of (NoMemory _) = codes "NoMemory"
name_of Exhausted = codes "Exhausted"
name_of OldVersion = codes "OldVersion"
