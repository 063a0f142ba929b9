use Rattle.output_gate.specs.laws.Ports.{told_after-append}
use Rattle.output_gate.proofs.laws.listeners_hear_in_parts.Goals as goal

pub returns : goal.returns
returns g c = told_after-append g.L.Listener.told
