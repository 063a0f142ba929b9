-- Refusals of an outbox, with number and name in the table of all refusals.
use Rattle.std.specs.Prelude.{ℕ, List, codes}
use Rattle.net_device.specs.declared.errors.OutboxError.{OutboxError}
use Rattle.net_device.specs.declared.errors.OutboxError.TheVariants.{NoMemory}

abbrev pub error_number : OutboxError → ℕ
error_number (NoMemory _) = 12

abbrev pub error_name : OutboxError → List ℕ
error_name (NoMemory _) = codes "NoMemory"
