-- Which interrupts are pending: the value that the CSR mip reads (the Privileged ISA, "Machine Interrupt Registers").
use Rattle.std.specs.Prelude.{ℕ, ◌+◌, ◌^◌, ◌==◌, ◌&&◌, nat_le, Bool, not, if◌then◌else◌}
use Rattle.guest_rules.specs.Guest.{Guest}

-- a number whose bit `place` is set under a condition, and no other
abbrev pub bit_if : Bool → ℕ → ℕ
bit_if condition place = if condition then 2 ^ place else 0

-- a device has an interrupt for its driver
abbrev pub interrupts_wait : Guest → Bool
interrupts_wait g = not (g.net.interrupt_status == 0 && g.disk.interrupt_status == 0)

-- bit 3, software: msip is set; bit 7, timer: the time, which is the number of steps, has come to mtimecmp; bit 11,
-- external: the network card or the disk has an interrupt for its driver
unfoldable pub mip : Guest → ℕ
mip g = bit_if (g.msip == 1) 3 + bit_if (nat_le g.mtimecmp g.steps) 7 + bit_if (interrupts_wait g) 11
