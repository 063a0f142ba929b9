use Rattle.std.proofs.Common.{refl}
use Rattle.node_player.proofs.runs.step.Goals as goal

pub returns-in-Primary : goal.returns-in-Primary
returns-in-Primary g c = let said = c.step_guest.ensures in (said.0, said.1, rw c.in-Primary.is (c.step_guest.new.primary, said.2, refl))
