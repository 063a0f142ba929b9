-- mstatus is made of its two enables, and the others are as before.
use Rattle.mtraps.proofs.csrs.Csrs.mret.Goals as goal

pub invariant_of-self : goal.invariant_of-self
invariant_of-self c = record {
  mstatus = c.with_enables-self-inside.ensures.legal;
  mie = c.self.invariant.mie;
  mtvec = c.self.invariant.mtvec;
  mepc = c.self.invariant.mepc;
}
