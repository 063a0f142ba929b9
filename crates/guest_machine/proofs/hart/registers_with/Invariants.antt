use Rattle.guest_machine.proofs.RegisterLemmas.{AreGiven}
use Rattle.guest_machine.proofs.hart.registers_with.Given as goal

abbrev pub invariant-loop-i : goal.invariant-loop-i
invariant-loop-i l = AreGiven l.regs l.values l.i
