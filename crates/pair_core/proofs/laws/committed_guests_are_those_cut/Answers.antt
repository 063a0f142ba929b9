use Rattle.pair_core.proofs.ReplicationRuns.{committed_is_cut, full_is_live}
use Rattle.pair_core.proofs.laws.committed_guests_are_those_cut.Goals as goal

pub returns-clause-cut : goal.returns-clause-cut
returns-clause-cut c = committed_is_cut

pub returns-clause-full : goal.returns-clause-full
returns-clause-full c = full_is_live
