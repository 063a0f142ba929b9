-- The numbers of the rules that a node's lines keep.
use Rattle.std.specs.Prelude.{ℕ, ◌^◌, ◌-◌}

-- a generation has a number from 1 to this
abbrev pub last_generation : ℕ
last_generation = 2 ^ 62 - 1
