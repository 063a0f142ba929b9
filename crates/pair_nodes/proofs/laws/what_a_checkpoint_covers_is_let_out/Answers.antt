use Rattle.pair_nodes.proofs.{Covered.hears-all, Runs.{reach_covers, reach_covers_exactly}}
use Rattle.pair_nodes.proofs.laws.what_a_checkpoint_covers_is_let_out.Goals as goal

pub returns-clause-covered : goal.returns-clause-covered
returns-clause-covered c = reach_covers

pub returns-clause-heard : goal.returns-clause-heard
returns-clause-heard c s n = hears-all n s

pub returns-clause-exactly : goal.returns-clause-exactly
returns-clause-exactly c = reach_covers_exactly
