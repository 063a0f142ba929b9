-- The register mstatus of the Privileged ISA ("Machine Status Registers"), where machine mode is the only one: the interrupt enables MIE
-- and MPIE are its bits 3 and 7, MPP, bits 12:11, reads 3, and all else reads 0.
use Rattle.std.specs.Prelude.{ℕ, ◌+◌, ◌==◌, Bool, if◌then◌else◌}
use Rattle.std.specs.Int.{bit_at}

-- MIE, whether interrupts are enabled
abbrev pub mie_bit : ℕ → Bool
mie_bit mstatus = bit_at mstatus 3 == 1

-- MPIE, whether they were before the trap
abbrev pub mpie_bit : ℕ → Bool
mpie_bit mstatus = bit_at mstatus 7 == 1

-- mstatus with this MIE and this MPIE
abbrev pub status : Bool → Bool → ℕ
status mie mpie = 0x1800 + (if mie then 8 else 0) + (if mpie then 128 else 0)
