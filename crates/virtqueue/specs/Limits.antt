-- The numbers of the rules that a queue keeps. Every definition cites these; that the code's constant is the first is the law
-- `limits_are_the_rules`.
use Rattle.std.specs.Prelude.{ℕ}

-- the machine's address map: memory begins here
abbrev pub ram_start : ℕ
ram_start = 0x80000000

-- the machine's devices: a queue has at most 64 descriptors, which they tell their drivers in QueueNumMax (virtio 1.1, 4.2.2)
abbrev pub most_descriptors : ℕ
most_descriptors = 64
