use Rattle.virtio_mmio.proofs.Rules.{needing_reset_keeps}
use Rattle.virtio_mmio.proofs.transport.Transport.need_reset.Goals as goal

pub invariant_of-self : goal.invariant_of-self
invariant_of-self c = rw c.need_reset.ensures (needing_reset_keeps c.self.inside.kind c.self.inside.state c.self.invariant)
