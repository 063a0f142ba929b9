-- The numbers of the rules that a checkpoint keeps. That the code's constants are these is the law `limits_are_the_rules`.
use Rattle.std.specs.Prelude.{ℕ}

-- the checkpoint's rules: changed memory is carried in blocks of 64 bytes, of which a page of 4096 has 64
abbrev pub block_bytes : ℕ
block_bytes = 64

-- the checkpoint's rules: one of version 1 speaks of 1 to 4096 pages, as many as a machine could have while it was written
abbrev pub most_old_pages : ℕ
most_old_pages = 4096
