-- What a primary is once the bytes that a call lends out of it are given back.
use Rattle.std.specs.Prelude.{◌≡◌, ⊤}
use Rattle.std.specs.Borrow.{follows_so, MutBor, Fml}
use mathlib.Core.Option.{none}
use Rattle.pair_nodes.specs.Flagged.{Flagged}
use Rattle.pair_nodes.specs.contracts.primary.PrimaryNode.{the_row}

-- it is as it was
abbrev pub IsAsItWas : MutBor Flagged → Fml
IsAsItWas p = follows_so the_row the_row p.ghost_name none (λ _ _. ⊤) (λ q. q ≡ p.now)
