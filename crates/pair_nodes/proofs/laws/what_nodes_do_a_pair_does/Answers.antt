use Rattle.pair_nodes.proofs.Happenings.{happens_served}
use Rattle.pair_nodes.proofs.laws.what_nodes_do_a_pair_does.Goals as goal

pub returns : goal.returns
returns c = happens_served
