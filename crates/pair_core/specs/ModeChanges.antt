-- What becomes of a record's mode and generation: a change goes by its row of failover's state table, and no other event changes the
-- generation, nor the mode, but that the commit of a full checkpoint fills a new backup.
use Rattle.std.specs.Prelude.{◌≡◌, ℕ, ◌+◌, Ok}
use Rattle.failover.specs.Changes.{row}
use Rattle.failover.specs.declared.change.Change.{Change}
use Rattle.failover.specs.declared.change.Change.TheVariants as changes
use Rattle.pair_record.specs.declared.event.Event.{Event}
use Rattle.pair_record.specs.declared.event.Event.TheVariants.{FailPrimary, FailBackup, GoLive, Protect}
use Rattle.pair_record.specs.declared.event.Reply.{Reply}
use Rattle.pair_record.specs.declared.event.Reply.TheVariants as replies
use Rattle.pair_record.specs.Protocol.{Record}
use Rattle.failover.specs.Modes.{mode_filled}

-- the event that makes a change
abbrev pub event_of : Change → Event
event_of changes.FailPrimary = FailPrimary
event_of changes.FailBackup = FailBackup
event_of changes.GoLive = GoLive
event_of changes.Protect = Protect

-- where it isn't refused, the mode after it is the row's, and the generation has risen as the row says
abbrev pub GoesByRow : Change → Record → Reply → Record → Type 0
GoesByRow change old (replies.Refused why) new = new ≡ old
GoesByRow change old reply new = (raise : ℕ) × (row change old.mode ≡ Ok (new.mode, raise)) × (new.generation ≡ old.generation + raise)

-- the mode after an event that makes no change, by its answer
abbrev pub LeavesFilled : Record → Reply → Record → Type 0
LeavesFilled old (replies.Committed generation number) new = new.mode ≡ mode_filled old.mode
LeavesFilled old reply new = new.mode ≡ old.mode

-- what each event leaves
abbrev pub LeavesMode : Event → Record → Reply → Record → Type 0
LeavesMode FailPrimary old reply new = GoesByRow changes.FailPrimary old reply new
LeavesMode FailBackup old reply new = GoesByRow changes.FailBackup old reply new
LeavesMode GoLive old reply new = GoesByRow changes.GoLive old reply new
LeavesMode Protect old reply new = GoesByRow changes.Protect old reply new
LeavesMode other old reply new = (new.generation ≡ old.generation) × LeavesFilled old reply new
