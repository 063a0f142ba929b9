-- Which interrupt is taken, by the Privileged ISA ("Machine Interrupt Registers"): one that is enabled and pending while MIE is set, an
-- external
-- one before a software one before a timer one.
use Rattle.std.specs.Prelude.{ℕ, ◌+◌, ◌^◌, ◌==◌, Bool, ◌&&◌, if◌then◌else◌, Option, None, List, [], ◌∷◌, find}
use Rattle.std.specs.Option.{option_map}
use Rattle.std.specs.Int.{bit_at}
use Rattle.mtraps.specs.declared.values.CsrValues.{CsrValues}
use Rattle.mtraps.specs.Status.{mie_bit}

-- the interrupts, by their bits in mie and mip, in the order in which they are taken: external, software, timer
abbrev pub interrupt_order : List ℕ
interrupt_order = 11 ∷ 3 ∷ 7 ∷ []

-- the cause of an interrupt
abbrev pub interrupt_cause : ℕ → ℕ
interrupt_cause bit = 2 ^ 63 + bit

-- the interrupt is enabled, and pending in mip
abbrev pub is_due : ℕ → ℕ → ℕ → Bool
is_due mie mip bit = bit_at mie bit == 1 && bit_at mip bit == 1

-- the cause of the first of them that is due, where one is
abbrev pub first_due : ℕ → ℕ → Option ℕ
first_due mie mip = option_map interrupt_cause (find (is_due mie mip) interrupt_order)

-- the cause of the interrupt that is taken, where one is
unfoldable pub due_interrupt : CsrValues → ℕ → Option ℕ
due_interrupt s mip = if mie_bit s.mstatus then first_due s.mie mip else None
