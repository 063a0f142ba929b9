-- The word that is printed for each mode.
use Rattle.std.specs.Prelude.{ℕ, List, codes}
use Rattle.failover.specs.declared.mode.Mode.{Mode}
use Rattle.failover.specs.declared.mode.Mode.TheVariants.{Paired, Filling, Alone, Stopped}

abbrev pub word_of : Mode → List ℕ
word_of Paired = codes "paired"
word_of Filling = codes "paired"
word_of Alone = codes "alone"
word_of Stopped = codes "stopped"
