use Rattle.std.proofs.Common.{◌≡◌, ℕ, arith, ap, subst, ◌∙◌}
use Rattle.std.proofs.lemmas.List.{length-set}
use Rattle.rv64_core.specs.Registers.{register}
use Rattle.guest_machine.proofs.RegisterLemmas.{Agree, all_taken, one_taken}
use Rattle.guest_machine.proofs.hart.Hart.registers.Goals as goal

pub loop-i-preserved : goal.loop-i-preserved
loop-i-preserved c =
    let regs = c.args.self.now.regs in
    let values = c.loop-i.values in
    let h = c.loop-i.invariant in
    record {
      long = length-set values c.loop-i.i c.get-value.result ∙ h.long;
      agree = one_taken regs values c.loop-i.i c.get-value.result (omega arith) h.long (c.get-value.ensures.value
          ∙ ap (λ (r : ℕ). register regs r) c.from_low_bits.ensures) h.agree;
    }

pub returns-clause-value : goal.returns-clause-value
returns-clause-value c =
    let AreTaken : ℕ → Type 0 = λ n. Agree c.args.self.now.regs c.loop-i.values n in
    let all : c.loop-i.i ≡ 31 = omega arith in
    all_taken c.args.self.now.regs c.loop-i.values c.get-x0.ensures.registers.count c.loop-i.invariant.long
    (subst AreTaken all c.loop-i.invariant.agree)
