use Rattle.guest_machine.proofs.machine.Machine.limit_decoded_pages.Goals as goal

pub invariant_of-self : goal.invariant_of-self
invariant_of-self c = (c.self.invariant.0, c.limit.ensures.decoded _)
