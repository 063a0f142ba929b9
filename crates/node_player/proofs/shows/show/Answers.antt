use Rattle.node_player.proofs.shows.show.Goals as goal

pub returns : goal.returns
returns g c = (_, c.put.ensures, rw c.as_slice.ensures.value (c.write_role.ensures g.O.Sink.no_memory))
