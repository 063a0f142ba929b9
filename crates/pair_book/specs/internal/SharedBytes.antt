-- The bytes behind a handle.
use Rattle.std.specs.Prelude.{ℕ, List}
use Rattle.std.specs.Arc.{arc_value}
use Rattle.pair_book.specs.declared.shared_bytes.SharedBytes.{SharedBytes}
use Rattle.pair_book.specs.declared.shared_bytes.SharedBytes.TheVariants.{Shared, Own}

abbrev pub bytes_of : SharedBytes → List ℕ
bytes_of (Shared handle) = (arc_value handle).items
bytes_of (Own bytes) = bytes.items
