use Rattle.output_gate.specs.laws.New.{clients_rise}
use Rattle.output_gate.proofs.LandedLaws.{others_stay, same_new}
use Rattle.output_gate.specs.laws.Ports.{boxes_count-for}
use Rattle.output_gate.proofs.laws.one_frame_lands.Goals as goal

pub returns-clause-rise : goal.returns-clause-rise
returns-clause-rise c = clients_rise

pub returns-clause-others : goal.returns-clause-others
returns-clause-others c = others_stay

pub returns-clause-clients : goal.returns-clause-clients
returns-clause-clients c = λ p cs n f. boxes_count-for n f p cs

pub returns-clause-later : goal.returns-clause-later
returns-clause-later c = same_new
