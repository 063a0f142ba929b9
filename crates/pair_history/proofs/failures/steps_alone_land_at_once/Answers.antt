use Rattle.pair_history.proofs.FailureLaws.{steps_alone}
use Rattle.pair_history.proofs.failures.steps_alone_land_at_once.Goals as goal

pub returns-clause-state : goal.returns-clause-state
returns-clause-state c s h none = (steps_alone s h none).1
