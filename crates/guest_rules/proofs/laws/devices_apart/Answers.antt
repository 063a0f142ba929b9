use Rattle.guest_rules.specs.laws.Apart.{next-apart, arrived-apart}
use Rattle.guest_rules.proofs.laws.devices_apart.Goals as goal

pub returns : goal.returns
returns c = record {
  step = λ g. next-apart g;
  arrival = λ g frame. arrived-apart g frame;
}
