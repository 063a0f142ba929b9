use Rattle.std.proofs.Common.{refl}
use Rattle.node_player.proofs.runs.acknowledge.Goals as goal

pub returns-in-Primary : goal.returns-in-Primary
returns-in-Primary g c = let said = c.hear.ensures in (said.0, said.1, rw c.in-Primary.is (c.hear.new.primary, said.2, refl))
