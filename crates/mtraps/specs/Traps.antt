-- What a trap and MRET do to the CSRs, by the Privileged ISA ("Privilege and Global Interrupt-Enable Stack", "Machine Trap-Vector
-- Base-Address Register", "Trap-Return Instructions"), where machine mode is the only one.
use Rattle.std.specs.Prelude.{ℕ, ◌+◌, ◌-◌, ◌*◌, ◌/◌, ◌%◌, ◌^◌, ◌==◌, nat_le, Bool, true, false, ◌&&◌, if◌then◌else◌}
use Rattle.std.specs.Int.{bit_at}
use Rattle.mtraps.specs.declared.values.CsrValues.{CsrValues}
use Rattle.mtraps.specs.CsrTable.{legal_value}
use Rattle.mtraps.specs.Status.{status, mie_bit, mpie_bit}

-- a trap is entered: interrupts are disabled and MPIE says whether they were enabled, mepc is the pc of the trapped instruction
unfoldable pub after_entry : (cause tval pc : ℕ) → CsrValues → CsrValues
after_entry cause tval pc s =
    record s { mstatus = status false (mie_bit s.mstatus); mepc = legal_value 0x341 pc; mcause = cause; mtval = tval }

-- the cause is an interrupt's
abbrev pub is_interrupt : ℕ → Bool
is_interrupt cause = nat_le (2 ^ 63) cause

-- mtvec asks for a handler for each interrupt
abbrev pub is_vectored : ℕ → Bool
is_vectored mtvec = bit_at mtvec 0 == 1

-- where traps go: mtvec with bits 1:0 clear
abbrev pub trap_base : ℕ → ℕ
trap_base mtvec = mtvec / 4 * 4

-- the pc of the handler for this cause: the base, and in vectored mode 4 times the bit behind it for an interrupt, modulo 2^64
unfoldable pub handler : (cause mtvec : ℕ) → ℕ
handler cause mtvec =
    if is_interrupt cause && is_vectored mtvec then (trap_base mtvec + 4 * (cause - 2 ^ 63)) % 2 ^ 64
    else trap_base mtvec

-- MRET: interrupts are enabled as they were before the trap, and MPIE is set
unfoldable pub after_return : CsrValues → CsrValues
after_return s = record s { mstatus = status (mpie_bit s.mstatus) true }
