use Rattle.pair_core.specs.Service.{Serves}
use Rattle.pair_core.specs.laws.Along.{along-point}
use Rattle.pair_core.specs.laws.Serves.{served_grows}
use Rattle.pair_core.proofs.ServiceRuns.{told_take, told_deliver, told_full, told_resume}
use Rattle.pair_core.proofs.laws.clients_have_one_guest_that_never_fails.Goals as goal

pub returns-clause-grows : goal.returns-clause-grows
returns-clause-grows c = served_grows

pub returns-clause-point : goal.returns-clause-point
returns-clause-point c start = along-point (Serves start)

pub returns-clause-take : goal.returns-clause-take
returns-clause-take c = told_take

pub returns-clause-deliver : goal.returns-clause-deliver
returns-clause-deliver c = told_deliver

pub returns-clause-full : goal.returns-clause-full
returns-clause-full c = told_full

pub returns-clause-resume : goal.returns-clause-resume
returns-clause-resume c = told_resume
