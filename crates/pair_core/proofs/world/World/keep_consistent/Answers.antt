use Rattle.std.proofs.Common.{subst}
use Rattle.pair_core.specs.{Pair.IsConsistent, internal.WorldFields.pair_of}
use Rattle.pair_core.specs.laws.Consistent.{consistent}
use Rattle.pair_core.proofs.world.World.keep_consistent.Goals as goal

pub returns : goal.returns
returns c = subst IsConsistent c.self.view_is (consistent (pair_of c.self.inside) c.self.invariant c.keep.ensures.record c.keep.ensures.numbers)
