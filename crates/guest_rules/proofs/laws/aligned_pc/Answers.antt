use Rattle.guest_rules.specs.laws.Aligned.{aligned-boot, aligned-next}
use Rattle.guest_rules.proofs.laws.aligned_pc.Goals as goal

pub returns-clause-boot : goal.returns-clause-boot
returns-clause-boot c pages sectors image = aligned-boot pages sectors image

pub returns-clause-step : goal.returns-clause-step
returns-clause-step c g h = aligned-next g h
