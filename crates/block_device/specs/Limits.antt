-- The numbers of the rules that a disk keeps. Every definition cites these; that the code's constant is the first is the law
-- `limits_are_the_rules`.
use Rattle.std.specs.Prelude.{ℕ}

-- virtio 1.1, 5.2.4: the capacity is in sectors of 512 bytes
abbrev pub sector_bytes : ℕ
sector_bytes = 512

-- the machine's rules: its disk has 1 to 32768 sectors
abbrev pub most_sectors : ℕ
most_sectors = 32768
