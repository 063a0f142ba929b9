use Rattle.pair_nodes.proofs.Runs.{reach_goes_on, reach_is_one_guest}
use Rattle.pair_nodes.proofs.laws.two_nodes_serve_as_one_guest.Goals as goal

pub returns-clause-served : goal.returns-clause-served
returns-clause-served c = reach_is_one_guest

pub returns-clause-goes_on : goal.returns-clause-goes_on
returns-clause-goes_on c = reach_goes_on
