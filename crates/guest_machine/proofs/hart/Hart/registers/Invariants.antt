use Rattle.std.proofs.Common.{◌≡◌, length}
use Rattle.guest_machine.proofs.RegisterLemmas.{Agree}
use Rattle.guest_machine.proofs.hart.Hart.registers.Given as goal

abbrev pub invariant-loop-i : goal.invariant-loop-i
invariant-loop-i l = record { long : length l.values ≡ 31; agree : Agree l.self.regs l.values l.i }
