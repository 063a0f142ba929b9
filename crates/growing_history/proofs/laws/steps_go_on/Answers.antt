use Rattle.growing_history.proofs.Start.{legal-nil}
use Rattle.growing_history.specs.laws.Logs.{goes-on, needed, begun, state-nil, state-snoc, history-nil, history-snoc, history-begins}
use Rattle.growing_history.proofs.laws.steps_go_on.Goals as goal

pub returns-clause-start : goal.returns-clause-start
returns-clause-start c = λ h. (legal-nil h, state-nil h, history-nil h)

pub returns-clause-goes_on : goal.returns-clause-goes_on
returns-clause-goes_on c = goes-on

pub returns-clause-needed : goal.returns-clause-needed
returns-clause-needed c = needed

pub returns-clause-begun : goal.returns-clause-begun
returns-clause-begun c = begun

pub returns-clause-state : goal.returns-clause-state
returns-clause-state c = state-snoc

pub returns-clause-history : goal.returns-clause-history
returns-clause-history c = history-snoc

pub returns-clause-begins : goal.returns-clause-begins
returns-clause-begins c = history-begins
