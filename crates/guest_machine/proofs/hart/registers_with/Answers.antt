use Rattle.std.proofs.Common.{◌≡◌, ℕ, List, get_or, refl, sym, ap, subst, ◌∙◌, arith}
use Rattle.rv64_core.specs.Registers.{with_register}
use Rattle.guest_machine.proofs.RegisterLemmas.{AreGiven, all_given, one_given}
use Rattle.guest_machine.proofs.hart.registers_with.Goals as goal

pub loop-i-init : goal.loop-i-init
loop-i-init c =
    let P : List ℕ → Type 0 = λ x. AreGiven x c.args.values.now 0 in
    subst P (sym c.new-regs.ensures) (record { count = refl; zero_first = refl; agree = λ k below. absurd (omega arith) })

pub loop-i-preserved : goal.loop-i-preserved
loop-i-preserved c =
    let values = c.args.values.now in
    one_given c.loop-i.regs values c.set.new.self c.loop-i.i (omega arith) c.told-values
    (c.set.ensures.value ∙ ap (λ (r : ℕ). with_register c.loop-i.regs r (get_or values c.loop-i.i 0)) c.from_low_bits.ensures) c.loop-i.invariant

pub returns : goal.returns
returns c =
    let P : ℕ → Type 0 = λ n. AreGiven c.loop-i.regs c.args.values.now n in
    let all : c.loop-i.i ≡ 31 = omega arith in
    all_given c.loop-i.regs c.args.values.now c.told-values (subst P all c.loop-i.invariant)
