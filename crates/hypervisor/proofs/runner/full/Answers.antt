use Rattle.hypervisor.proofs.Cutting.{full_carried}
use Rattle.hypervisor.proofs.runner.full.Goals as goal

pub returns : goal.returns
returns c =
    full_carried _ _ _ _ c.in_ok-checkpoint.ensures.parts c.in_ok-checkpoint.ensures.image c.in_ok-packet.ensures.generation c.in_ok-packet.ensures.number
    c.in_ok-packet.ensures.text c.in_ok-packet.ensures.read
