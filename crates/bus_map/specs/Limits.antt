-- The number of the address map that the machine above it keeps too. That the code's constant is it is the law `limits_are_the_rules`.
use Rattle.std.specs.Prelude.{ℕ}

-- the address map: the last row, memory, begins here
abbrev pub ram_base : ℕ
ram_base = 0x80000000
