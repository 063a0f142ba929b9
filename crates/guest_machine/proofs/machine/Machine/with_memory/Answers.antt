use Rattle.std.proofs.Common.{◌%◌, ap, refl}
use Rattle.mtraps.specs.declared.values.CsrValues.{CsrValues}
use Rattle.guest_machine.proofs.machine.Machine.with_memory.Goals as goal

pub invariant_of-result : goal.invariant_of-result
invariant_of-result c = (record { pc = refl; mepc = ap (λ (s : CsrValues). s.mepc % 4) c.boot-5.ensures.values }, c.in_ok-pages.ensures _)
