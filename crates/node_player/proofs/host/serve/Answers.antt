use Rattle.node_player.proofs.host.serve.Goals as goal

pub returns : goal.returns
returns g c = rw c.new-host.ensures at c.serve.ensures
