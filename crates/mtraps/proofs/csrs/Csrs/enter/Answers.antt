-- Each CSR keeps a legal value: mstatus is made of its two enables, mepc is masked, and the others are as before or hold any value.
use Rattle.mtraps.proofs.Masks.{legal_mepc}
use Rattle.mtraps.proofs.csrs.Csrs.enter.Goals as goal

pub invariant_of-self : goal.invariant_of-self
invariant_of-self c = record {
  mstatus = c.with_enables-self-inside.ensures.legal;
  mie = c.self.invariant.mie;
  mtvec = c.self.invariant.mtvec;
  mepc = legal_mepc c.args.pc;
}
