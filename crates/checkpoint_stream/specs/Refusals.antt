-- The table of refusals: the numbers and the names of those that the stream gives.
use Rattle.std.specs.Prelude.{ℕ, List, codes}
use Rattle.checkpoint_stream.specs.declared.errors.StreamError.{StreamError}
use Rattle.checkpoint_stream.specs.declared.errors.StreamError.TheVariants.{Malformed, NoMemory}

abbrev pub number_of : StreamError → ℕ
number_of (Malformed offset) = 11
number_of (NoMemory _) = 12

abbrev pub name_of : StreamError → List ℕ
name_of (Malformed offset) = codes "Malformed"
name_of (NoMemory _) = codes "NoMemory"
