use Rattle.std.proofs.Common.{◌%◌, ap, ◌∙◌}
use Rattle.mtraps.specs.declared.values.CsrValues.{CsrValues}
use Rattle.guest_rules.specs.laws.Aligned.{legal_aligned}
use Rattle.guest_machine.proofs.machine.Machine.put_state.Goals as goal

pub invariant_of-self : goal.invariant_of-self
invariant_of-self c = (
  record {
    pc = c.requires.pc;
    mepc = ap (λ (s : CsrValues). s.mepc % 4) c.from_values.ensures ∙ legal_aligned c.args.state.now.csrs.mepc c.requires.csrs.mepc;
  },
  c.self.invariant.1,
)
