use Rattle.growing_history.specs.laws.Arrivals.{handed-legal, handed-leave, waits-numbered}
use Rattle.growing_history.proofs.laws.handed_out_frames_can_arrive.Goals as goal

pub returns-clause-legal : goal.returns-clause-legal
returns-clause-legal c = handed-legal

pub returns-clause-found : goal.returns-clause-found
returns-clause-found c = λ s d place n f reached. waits-numbered s reached d place n f

pub returns-clause-leave : goal.returns-clause-leave
returns-clause-leave c = λ s d reached. handed-leave s reached d
