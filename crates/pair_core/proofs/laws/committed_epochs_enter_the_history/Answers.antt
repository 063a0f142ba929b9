use Rattle.pair_core.proofs.{EpochRuns.{cut_enters, full_enters}, ServiceRuns.has_entered}
use Rattle.pair_core.proofs.laws.committed_epochs_enter_the_history.Goals as goal

pub returns-clause-run : goal.returns-clause-run
returns-clause-run c = has_entered

pub returns-clause-epoch : goal.returns-clause-epoch
returns-clause-epoch c = cut_enters

pub returns-clause-full : goal.returns-clause-full
returns-clause-full c = full_enters
