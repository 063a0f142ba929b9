use Rattle.guest_rules.specs.laws.Listed.{next-listed, run-listed}
use Rattle.guest_rules.proofs.laws.changed_sectors_are_listed.Goals as goal

pub returns-clause-step : goal.returns-clause-step
returns-clause-step c = λ g dirty. next-listed g dirty

pub returns-clause-run : goal.returns-clause-run
returns-clause-run c = λ n g dirty. run-listed n g dirty
