use Rattle.std.proofs.Common.{◌∙◌}
use Rattle.node_player.proofs.runs.tell_protecting.Goals as goal

pub returns : goal.returns
returns g c = rw (c.as_slice.ensures.value ∙ c.write_checkpoint.ensures) at c.put.ensures
