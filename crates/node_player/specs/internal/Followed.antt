-- The bytes that follow a line, read from the left.
use Rattle.std.specs.Prelude.{ℕ, nat_eq, nat_lt, ◌&&◌, List, Option, Some, None, length, if◌then◌else◌, option_and_then}
use Rattle.script_player.specs.Fields.{text_after, operand_at}

-- what stands behind a number, where it is so many bytes, and at least one
abbrev pub all_counted : ℕ × List ℕ → Option (List ℕ)
all_counted found = if nat_lt 0 found.0 && nat_eq found.0 (length found.1) then Some found.1 else None

-- what stands behind the front, a number and a newline
abbrev pub followed : List ℕ → List ℕ → Option (List ℕ)
followed front text = option_and_then all_counted (option_and_then (operand_at 10) (text_after front text))
