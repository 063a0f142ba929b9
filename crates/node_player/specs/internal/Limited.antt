-- What reading a line tells of its numbers.
use Rattle.script_player.specs.Boot.{IsInLimits, boot_line}
use Rattle.node_player.specs.declared.lines.Line.{Line}
use Rattle.node_player.specs.declared.lines.Line.TheVariants as lines
use Rattle.node_player.specs.declared.orders.Order.{Order}
use Rattle.node_player.specs.declared.orders.Order.TheVariants as orders
use Rattle.node_player.specs.Orders.{IsShaped}

abbrev pub IsLimitedOrder : Order → Type 0
IsLimitedOrder (orders.Standby pages sectors generation) = IsShaped pages sectors generation
IsLimitedOrder command = Unit {0}

abbrev pub IsLimited : Line → Type 0
IsLimited (lines.Boot boot) = IsInLimits (boot_line boot)
IsLimited (lines.Order command) = IsLimitedOrder command
IsLimited line = Unit {0}
