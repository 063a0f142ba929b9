use Rattle.std.proofs.Common.{refl}
use Rattle.node_player.proofs.waits.take_piece.Goals as goal

pub returns-in-Primary : goal.returns-in-Primary
returns-in-Primary g c = (_, c.refuse-in-Primary.ensures, rw c.in-Primary.is (c.in-Primary.field-0, (refl, refl), refl))

pub returns-in-Standby : goal.returns-in-Standby
returns-in-Standby g c = let said = c.feed.ensures in (said.0, said.1, rw c.in-Standby.is (c.feed.new.standby, said.2, refl))
