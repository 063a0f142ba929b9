use Rattle.std.proofs.Common.{refl}
use Rattle.guest_rules.specs.Guest.{boot_guest}
use Rattle.guest_rules.specs.laws.Counts.{steps-next}
use Rattle.guest_rules.proofs.laws.counted_steps.Goals as goal

pub returns-clause-step : goal.returns-clause-step
returns-clause-step c g = steps-next g

pub returns-clause-boot : goal.returns-clause-boot
unfolding boot_guest
returns-clause-boot c pages sectors image = refl
