use Rattle.virtio_mmio.proofs.Rules.{counters_keep}
use Rattle.virtio_mmio.proofs.transport.Transport.put_counters.Goals as goal

pub invariant_of-self : goal.invariant_of-self
invariant_of-self c = rw c.put_counters.ensures (counters_keep c.self.inside.kind c.self.inside.state c.args.number c.args.next_available
    c.args.next_used c.self.invariant)
