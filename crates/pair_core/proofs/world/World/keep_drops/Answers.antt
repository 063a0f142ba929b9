use Rattle.pair_core.specs.internal.WorldFields.{pair_of}
use Rattle.pair_core.specs.laws.Drops.{answers_drop_what_they_may}
use Rattle.pair_core.proofs.world.World.keep_drops.Goals as goal

pub returns : goal.returns
returns c event reply new = rw (← c.self.view_is) (answers_drop_what_they_may (pair_of c.self.inside) c.self.invariant c.keep.ensures.record event reply new)
