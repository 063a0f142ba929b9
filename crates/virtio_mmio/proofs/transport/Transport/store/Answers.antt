use Rattle.virtio_mmio.proofs.Rules.{store_keeps}
use Rattle.virtio_mmio.proofs.transport.Transport.store.Goals as goal

pub invariant_of-self : goal.invariant_of-self
invariant_of-self c = rw c.store_register.ensures.state
    (store_keeps c.self.inside.kind c.self.inside.state c.args.offset _ c.self.invariant)
