use Rattle.std.proofs.Common.{refl}
use Rattle.node_player.proofs.runs.put_part.Goals as goal

pub returns-in-Primary : goal.returns-in-Primary
returns-in-Primary g c =
    let said = c.put_part_of.ensures in (said.0, said.1, rw c.in-Primary.is (c.put_part_of.new.primary, said.2, refl))
