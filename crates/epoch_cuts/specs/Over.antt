-- What a checkpoint is cut over.
use Rattle.std.specs.Prelude.{ℕ, List, length, replicate}
use Rattle.guest_rules.specs.Guest.{State}
use Rattle.epoch_cuts.specs.declared.memory.Over.{Over}
use Rattle.epoch_cuts.specs.declared.memory.Over.TheVariants.{Settled, Zero}

-- the memory that a machine's checkpoint is cut over
abbrev pub old_ram : Over → State → List ℕ
old_ram Settled m = m.settled
old_ram Zero m = replicate (length m.guest.ram) 0
