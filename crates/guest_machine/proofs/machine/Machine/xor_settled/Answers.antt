use Rattle.guest_machine.proofs.machine.Machine.xor_settled.Goals as goal

pub invariant_of-self : goal.invariant_of-self
invariant_of-self c = (record { pc = c.self.invariant.0.pc; mepc = c.self.invariant.0.mepc }, c.clear.ensures.decoded _)
