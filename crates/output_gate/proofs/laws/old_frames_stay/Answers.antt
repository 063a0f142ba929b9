use Rattle.output_gate.specs.laws.Ports.{risen-after}
use Rattle.output_gate.proofs.laws.old_frames_stay.Goals as goal

pub returns-clause-rise : goal.returns-clause-rise
returns-clause-rise c p first fs = risen-after p first fs
