-- A guest with its own state put is itself.
use Rattle.std.proofs.Common.{◌≡◌, ℕ, List, [], ◌∷◌, drop, sym, ap, ◌∙◌, arith}
use Rattle.rv64_core.specs.Registers.{AreRegisters}
use Rattle.guest_rules.specs.declared.machine_state.MachineState.{MachineState}
use Rattle.guest_rules.specs.Guest.{Guest}
use Rattle.guest_rules.specs.MachineStates.{state_of, with_state}

whole_registers : (x : List ℕ) → AreRegisters x → 0 ∷ drop 1 x ≡ x
whole_registers [] h = absurd (omega (arith, h.count))
whole_registers (y ∷ ys) h = ap (λ (z : ℕ). z ∷ ys) (sym h.zero_first)

pub same_with_state : (g : Guest) (s : MachineState) → s ≡ state_of g → AreRegisters g.regs → with_state g s ≡ g
same_with_state g s is regs =
    ap (λ (t : MachineState). with_state g t) is ∙ ap (λ (x : List ℕ). record g { regs = x }) (whole_registers g.regs regs)
