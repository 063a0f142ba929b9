use Rattle.growing_history.proofs.CallLaws.{call-is, own-stays}
use Rattle.growing_history.proofs.laws.a_call_is_a_point_of_one_history.Goals as goal

pub returns-clause-call : goal.returns-clause-call
returns-clause-call c = call-is

pub returns-clause-none : goal.returns-clause-none
returns-clause-none c = own-stays
