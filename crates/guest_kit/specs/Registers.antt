-- The registers that the programs use, by their numbers.
use Rattle.std.specs.Prelude.{ℕ}
use Rattle.guest_kit.specs.declared.assembler.Reg.{Reg}
use Rattle.guest_kit.specs.declared.assembler.Reg.TheVariants.{X0, X5, X6, X7, X8, X9, X10, X11, X12, X13, X14, X15}

abbrev pub register_number : Reg → ℕ
register_number X0 = 0
register_number X5 = 5
register_number X6 = 6
register_number X7 = 7
register_number X8 = 8
register_number X9 = 9
register_number X10 = 10
register_number X11 = 11
register_number X12 = 12
register_number X13 = 13
register_number X14 = 14
register_number X15 = 15
