-- A line after the boot line, without where its bytes lie in memory.
use Rattle.std.specs.Prelude.{ℕ, List}
use Rattle.script_player.specs.declared.script.Command.{Command}
use Rattle.script_player.specs.declared.lines.Line.{Line as ReadLine}
use Rattle.script_player.specs.declared.lines.Line.TheVariants as lines

pub data Line : Type 0 where
  order : Command → Line
  delivery : (client : ℕ) (bytes : List ℕ) → Line

abbrev pub line_of : ReadLine → Line
line_of (lines.Order command) = order command
line_of (lines.Delivery d) = delivery d.client d.bytes.items
