-- The numbers of the rules that a boot line, a command line and a line of a live session keep. Every definition cites these; that the
-- code's constants are they is the law `limits_are_the_rules`.
use Rattle.std.specs.Prelude.{ℕ}

-- the machine's rules: a page of memory has 4096 bytes
abbrev pub page_bytes : ℕ
page_bytes = 4096

-- the guest's rules: its memory has 1 to 16384 pages
abbrev pub most_pages : ℕ
most_pages = 16384

-- the guest's rules: its disk has 1 to 32768 sectors
abbrev pub most_sectors : ℕ
most_sectors = 32768

-- the pair's rules: clients have the numbers 1 to 16
abbrev pub most_clients : ℕ
most_clients = 16

-- a live session's rules: a line that is read has 256 MiB at most, without its newline
abbrev pub most_line_bytes : ℕ
most_line_bytes = 268435456

-- a session's rules: a line that bytes follow has 32 at most in front of its newline
abbrev pub most_head_bytes : ℕ
most_head_bytes = 32
