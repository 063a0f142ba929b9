use Rattle.std.proofs.Common.{refl}
use Rattle.node_player.proofs.shows.write_role.Goals as goal

pub returns-in-Primary : goal.returns-in-Primary
returns-in-Primary c = λ no_memory. rw c.in-Primary.is (c.in-Primary.primary, c.write_primary.ensures no_memory, refl)

pub returns-in-Standby : goal.returns-in-Standby
returns-in-Standby c = λ no_memory. rw c.in-Standby.is (c.write_standby.ensures no_memory)
