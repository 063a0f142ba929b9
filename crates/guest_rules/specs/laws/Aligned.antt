-- The pc stays a multiple of 4, and so does the one that MRET goes back to.
use Rattle.std.proofs.Common.{◌≡◌, ℕ, ◌+◌, ◌%◌, ◌^◌, ◌==◌, Bool, true, false, ◌&&◌, if◌then◌else◌, List, [], ◌∷◌, bit_and, refl, sym, ap}
use Rattle.std.proofs.Common.{◌∙◌, arith, zero, suc}
use Rattle.std.specs.Prelude.{find, bit_or, Option, Some}
use Rattle.std.specs.Int.Bits.{and_zero_r, or_zero_r}
use Rattle.std.specs.List.{AllByRecursion}
use Rattle.std.specs.Option.{option_map_or}
use Rattle.std.proofs.lemmas.Nat.{and_mod}
use Rattle.mtraps.specs.declared.values.CsrValues.{CsrValues}
use Rattle.mtraps.specs.CsrTable.{Row, csr_table, csr, after_write, legal_value, written}
use Rattle.mtraps.specs.Traps.{after_entry, after_return, handler, is_interrupt, is_vectored, trap_base}
use Rattle.mtraps.specs.laws.Masks.{mepc_kept}
use Rattle.bus_map.specs.declared.parts.TimerRegister.{TimerRegister}
use Rattle.bus_map.specs.declared.parts.TimerRegister.TheVariants.{Msip, Mtimecmp, Mtime}
use Rattle.guest_rules.specs.Guest.{Guest, boot_guest}
use Rattle.guest_rules.specs.Aligned.{IsAligned}
use Rattle.guest_rules.specs.Runs.{after_steps}
use Rattle.guest_rules.specs.Step.{passed, timer_stored, step_done, next}
use Rattle.guest_rules.specs.laws.Cases.{step_case}

-- mepc keeps no low bits
masked_aligned : (v : ℕ) → bit_and v 0xfffffffffffffffc % 4 ≡ 0
masked_aligned v = and_mod v 0xfffffffffffffffc 2 ∙ and_zero_r (v % 4)

-- so a value that mepc can hold is a multiple of 4
pub legal_aligned : (v : ℕ) → legal_value 0x341 v ≡ v → v % 4 ≡ 0
legal_aligned v h = ap (λ (n : ℕ). n % 4) (sym h ∙ mepc_kept v) ∙ masked_aligned v

entry_aligned : (cause value pc : ℕ) (s : CsrValues) → (after_entry cause value pc s).mepc % 4 ≡ 0
unfolding after_entry
entry_aligned cause value pc s = ap (λ (n : ℕ). n % 4) (mepc_kept pc) ∙ masked_aligned pc

-- a handler stands at a multiple of 4
either_aligned : (b : Bool) (x y : ℕ) → x % 4 ≡ 0 → y % 4 ≡ 0 → (if b then x else y) % 4 ≡ 0
either_aligned true x y f h = f
either_aligned false x y f h = h

handler_aligned : (cause mtvec : ℕ) → handler cause mtvec % 4 ≡ 0
unfolding handler
handler_aligned cause mtvec =
    either_aligned (is_interrupt cause && is_vectored mtvec) _ (trap_base mtvec) (omega arith) (omega arith)

-- a write of a CSR: what holds before it, and after the write by each row, holds after it
found_first : (P : CsrValues → Type 0) (set : Row → CsrValues) (s : CsrValues) (b : Bool) (row : Row) (rest : Option Row) → P (set row) →
    P (option_map_or set rest s) → P (option_map_or set (if b then Some row else rest) s)
found_first P set s true row rest f h = f
found_first P set s false row rest f h = h

found_kept : (P : CsrValues → Type 0) (set : Row → CsrValues) (s : CsrValues) (n : ℕ) (rows : List Row) → P s →
    AllByRecursion (λ row. P (set row)) rows → P (option_map_or set (find (λ row. row.number == n) rows) s)
found_kept P set s n [] here all = here
found_kept P set s n (row ∷ rows) here all =
    found_first P set s (row.number == n) row (find (λ r. r.number == n) rows) all.0 (found_kept P set s n rows here all.1)

-- only that of mepc changes it
written_aligned : (number value : ℕ) (s : CsrValues) → s.mepc % 4 ≡ 0 → (written number value s).mepc % 4 ≡ 0
unfolding written csr csr_table
written_aligned number value s h =
    let mepc : bit_or (bit_and value 0xfffffffffffffffc) 0 % 4 ≡ 0 = ap (λ (n : ℕ). n % 4) (or_zero_r _) ∙ masked_aligned value in
    found_kept (λ t. t.mepc % 4 ≡ 0) (λ row. row.set (after_write row value) s) s number csr_table h
    (h, (h, (h, (h, (h, (mepc, (h, (h, (h, (h, (h, (h, (h, (h, tt))))))))))))))

next_aligned : (pc : ℕ) → pc % 4 ≡ 0 → (pc + 4) % 2 ^ 64 % 4 ≡ 0
next_aligned pc h = omega arith

returned_aligned : (g : Guest) → IsAligned g → IsAligned (record g { csrs = after_return g.csrs; pc = g.csrs.mepc })
unfolding after_return
returned_aligned g h = record { pc = h.mepc; mepc = h.mepc }

-- the step
timer_stored-aligned : (g : Guest) (value : ℕ) (r : TimerRegister) → IsAligned g → IsAligned (passed (timer_stored g value r))
timer_stored-aligned g value Msip h = record { pc = next_aligned g.pc h.pc; mepc = h.mepc }
timer_stored-aligned g value Mtimecmp h = record { pc = next_aligned g.pc h.pc; mepc = h.mepc }
timer_stored-aligned g value Mtime h = record { pc = next_aligned g.pc h.pc; mepc = h.mepc }

step_done-aligned : (g : Guest) → IsAligned g → IsAligned (step_done g).guest
step_done-aligned g h =
    step_case (λ e. IsAligned e.guest) g (record {
      trap = λ cause value. record { pc = handler_aligned cause g.csrs.mtvec; mepc = entry_aligned cause value g.pc g.csrs };
      goes_on = λ regs pc aligned. record { pc = aligned h.pc; mepc = h.mepc };
      loads = λ regs. record { pc = next_aligned g.pc h.pc; mepc = h.mepc };
      stores = λ offset n value inside. record { pc = next_aligned g.pc h.pc; mepc = h.mepc };
      sets_timer = λ register value. timer_stored-aligned g value register h;
      serves = λ offset n value after is. record { pc = next_aligned g.pc h.pc; mepc = h.mepc };
      serves_disk = λ offset n value after is. record { pc = next_aligned g.pc h.pc; mepc = h.mepc };
      writes_csr = λ regs number value. record { pc = next_aligned g.pc h.pc; mepc = written_aligned number value g.csrs h.mepc };
      returns = returned_aligned g h;
    })

pub aligned-next : (g : Guest) → IsAligned g → IsAligned (next g)
unfolding next
aligned-next g h = let after = step_done-aligned g h in record { pc = after.pc; mepc = after.mepc }

pub aligned-boot : (pages sectors : ℕ) (image : List ℕ) → IsAligned (boot_guest pages sectors image)
unfolding boot_guest
aligned-boot pages sectors image = record { pc = refl; mepc = refl }

pub aligned_after : (n : ℕ) (g : Guest) → IsAligned g → IsAligned (after_steps n g)
unfolding after_steps
aligned_after zero g h = h
aligned_after (suc n) g h = aligned_after n (next g) (aligned-next g h)
