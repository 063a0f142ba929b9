-- What a node is (docs/NODES.md, "What it holds").
use Rattle.pair_nodes.specs.Flagged.{Flagged}
use Rattle.pair_nodes.specs.Sides.{Standby}
use Rattle.node_player.specs.declared.role.Role.{Role}
use Rattle.node_player.specs.declared.role.Role.TheVariants as roles

pub data Node : Type 0 where
  nothing : Node
  primary : Flagged → Node
  standby : Standby → Node

-- the program's
abbrev pub node_of : Role → Node
node_of roles.Nothing = nothing
node_of (roles.Primary p) = primary p
node_of (roles.Standby b) = standby b
