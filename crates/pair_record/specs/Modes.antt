-- The modes of a pair, and which events each of them refuses whatever else holds.
use Rattle.std.specs.Prelude.{ℕ, Bool, true, false, Option, None, Some, Result, Ok, Err}
use Rattle.failover.specs.Changes.{row}
use Rattle.failover.specs.declared.change.Change.{Change}
use Rattle.failover.specs.declared.change.Change.TheVariants as changes
use Rattle.failover.specs.declared.errors.FailoverError.{FailoverError}
use Rattle.failover.specs.declared.errors.FailoverError.TheVariants.{Stopped as HasStopped, NotPaired as HasNoPair}
use Rattle.failover.specs.declared.errors.FailoverError.TheVariants.{AlreadyPaired as HasPair, NoImage as HasNoImage}
use Rattle.failover.specs.declared.mode.Mode.{Mode}
use Rattle.failover.specs.declared.mode.Mode.TheVariants as modes
use Rattle.pair_record.specs.declared.event.Event.{Event}
use Rattle.pair_record.specs.declared.event.Event.TheVariants.{Cut, Send, BackupGet, AckGet, FailPrimary, FailBackup, GoLive, Protect}
use Rattle.pair_record.specs.declared.event.Refusal.{Refusal}
use Rattle.pair_record.specs.declared.event.Refusal.TheVariants.{Stopped, NotPaired, AlreadyPaired, NoImage}

-- whether the primary has stopped, and the backup hasn't gone live
abbrev pub is_stopped : Mode → Bool
is_stopped modes.Stopped = true
is_stopped modes.Paired = false
is_stopped modes.Filling = false
is_stopped modes.Alone = false

-- whether a node is alone
abbrev pub is_alone : Mode → Bool
is_alone modes.Alone = true
is_alone modes.Paired = false
is_alone modes.Filling = false
is_alone modes.Stopped = false

-- what the primary does in a pair is refused where it has stopped, and where a node is alone
abbrev pub primary_refusal : Mode → Option Refusal
primary_refusal modes.Paired = None
primary_refusal modes.Filling = None
primary_refusal modes.Alone = Some NotPaired
primary_refusal modes.Stopped = Some Stopped

-- what the backup does, where a node is alone: it goes on where the primary has stopped
abbrev pub backup_refusal : Mode → Option Refusal
backup_refusal modes.Paired = None
backup_refusal modes.Filling = None
backup_refusal modes.Alone = Some NotPaired
backup_refusal modes.Stopped = None

-- a refusal of failover's is the pair's of the same name
abbrev pub named : FailoverError → Refusal
named HasStopped = Stopped
named HasNoPair = NotPaired
named HasPair = AlreadyPaired
named HasNoImage = NoImage

-- why a change of mode is refused, by failover's state table
abbrev pub refusal_in : Result (Mode × ℕ) FailoverError → Option Refusal
refusal_in (Ok to) = None
refusal_in (Err why) = Some (named why)

abbrev pub change_refusal : Change → Mode → Option Refusal
change_refusal change mode = refusal_in (row change mode)

-- Why an event is refused in a mode: a change of mode by its row. A step, and a frame's arrival, are refused where the primary has
-- stopped, each in its own place of its table of refusals; what clients and their lines do is not refused by any mode.
abbrev pub mode_refusal : Mode → Event → Option Refusal
mode_refusal mode Cut = primary_refusal mode
mode_refusal mode Send = primary_refusal mode
mode_refusal mode (BackupGet k) = backup_refusal mode
mode_refusal mode (AckGet k) = primary_refusal mode
mode_refusal mode FailPrimary = change_refusal changes.FailPrimary mode
mode_refusal mode FailBackup = change_refusal changes.FailBackup mode
mode_refusal mode GoLive = change_refusal changes.GoLive mode
mode_refusal mode Protect = change_refusal changes.Protect mode
mode_refusal mode other = None
