use Rattle.pair_nodes.proofs.Runs.{stop-first}
use Rattle.pair_nodes.proofs.laws.one_that_boots_alone_is_one_of_two.Goals as goal

pub returns : goal.returns
returns c = stop-first
