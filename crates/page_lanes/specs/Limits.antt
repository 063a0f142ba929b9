-- The numbers of the rules that the kernels keep. That the code's constants are they is the law `limits_are_the_rules`.
use Rattle.std.specs.Prelude.{ℕ}

-- the machine's rules: a page of memory has 4096 bytes (the Privileged ISA's base pages have as many)
abbrev pub page_size : ℕ
page_size = 4096

-- the checkpoint's rules: changed memory is carried in blocks of 64 bytes, so that a page has as many as a 64-bit mask has bits
abbrev pub block_size : ℕ
block_size = 64
