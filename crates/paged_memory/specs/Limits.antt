-- The numbers of the rules that a memory keeps. Every definition cites these; that the code's constant is the first is the law
-- `limits_are_the_rules`.
use Rattle.std.specs.Prelude.{ℕ}

-- the machine's rules: a page of memory has 4096 bytes
abbrev pub page_bytes : ℕ
page_bytes = 4096

-- the machine's rules: its memory has 1 to 16384 pages
abbrev pub most_pages : ℕ
most_pages = 16384
