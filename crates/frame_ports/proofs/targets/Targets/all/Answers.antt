use Rattle.frame_ports.proofs.TargetLemmas.{has_target-all}
use Rattle.frame_ports.proofs.targets.Targets.all.Goals as goal

pub returns : goal.returns
returns c = λ client pos most. has_target-all c.args.clients client c.requires pos most
