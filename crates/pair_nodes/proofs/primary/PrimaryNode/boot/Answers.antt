-- The guest has its shape from the start.
use Rattle.std.proofs.Common.{sym, subst}
use Rattle.pair_core.specs.Nodes.{HasShape}
use Rattle.pair_nodes.proofs.Sized.{sized_at_boot}
use Rattle.pair_nodes.proofs.primary.PrimaryNode.boot.Goals as goal

pub lone-requires-clause-sized : goal.lone-requires-clause-sized
lone-requires-clause-sized c =
    subst (HasShape c.args.shape) (sym c.in-Ok-boot.ensures.guest) (sized_at_boot c.args.shape c.args.image.now c.requires)
