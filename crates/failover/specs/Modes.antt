-- What is said of a mode in more than one crate.
use Rattle.std.specs.Prelude.{Bool, true, false}
use Rattle.failover.specs.declared.mode.Mode.{Mode}
use Rattle.failover.specs.declared.mode.Mode.TheVariants.{Paired, Filling, Alone, Stopped}

-- whether a new backup still waits for its first checkpoint, which is a full one
abbrev pub is_filling : Mode → Bool
is_filling Filling = true
is_filling Paired = false
is_filling Alone = false
is_filling Stopped = false

-- the mode once that one is committed, or any other
abbrev pub mode_filled : Mode → Mode
mode_filled Filling = Paired
mode_filled Paired = Paired
mode_filled Alone = Alone
mode_filled Stopped = Stopped
