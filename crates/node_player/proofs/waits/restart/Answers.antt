use Rattle.std.proofs.Common.{refl}
use Rattle.node_player.proofs.waits.restart.Goals as goal

pub returns-in-Primary : goal.returns-in-Primary
returns-in-Primary g c = (_, c.refuse-in-Primary.ensures, rw c.in-Primary.is (c.in-Primary.field-0, (refl, refl), refl))
