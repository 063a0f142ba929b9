-- Instructions have 4 bytes, and the pc is always a multiple of 4 (the Unprivileged ISA, "Base Instruction Formats").
use Rattle.std.specs.Prelude.{◌≡◌, ◌%◌}
use Rattle.guest_rules.specs.Guest.{Guest}

-- the pc, and the one that MRET goes back to
pub record IsAligned (g : Guest) : Type 0 where
  pub pc : g.pc % 4 ≡ 0
  pub mepc : g.csrs.mepc % 4 ≡ 0
