-- The guest that does nothing: a jump to itself.
use Rattle.std.specs.Prelude.{[], ◌∷◌}
use Rattle.guest_kit.specs.Image.{Program}

abbrev pub idle_program : Program
idle_program = record { words = 0x0000006f ∷ []; parts = [] }
