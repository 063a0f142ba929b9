-- What follows from a mode that doesn't refuse an event.
use Rattle.std.proofs.Common.{◌≡◌, refl, Bool, true, false, List, Option, None, Some}
use Rattle.failover.specs.{declared.mode.Mode.Mode, declared.mode.Mode.TheVariants.{Filling, Alone, Stopped}}
use Rattle.failover.specs.declared.change.Change.TheVariants.{FailPrimary, FailBackup, GoLive, Protect}
use Rattle.pair_record.specs.declared.event.Refusal.{Refusal}
use Rattle.pair_record.specs.Modes.{is_stopped, is_alone, primary_refusal, backup_refusal, change_refusal}
use Rattle.pair_record.specs.Tables.{Row, first_of}
use Rattle.failover.specs.Modes.{is_filling, mode_filled}

pub clash : (t : Bool) → t ≡ true → t ≡ false → ⊥
clash t e f = cc

pub primary_goes : (mode : Mode) → primary_refusal mode ≡ None → is_alone mode ≡ false
primary_goes Alone e = absurd (cc)
primary_goes other e = refl

pub backup_goes : (mode : Mode) → backup_refusal mode ≡ None → is_alone mode ≡ false
backup_goes Alone e = absurd (cc)
backup_goes other e = refl

pub stop_goes : (mode : Mode) → change_refusal FailPrimary mode ≡ None → is_alone mode ≡ false
stop_goes Alone e = absurd (cc)
stop_goes other e = refl

pub failure_goes : (mode : Mode) → change_refusal FailBackup mode ≡ None → is_alone mode ≡ false
failure_goes Alone e = absurd (cc)
failure_goes other e = refl

pub live_goes : (mode : Mode) → change_refusal GoLive mode ≡ None → is_alone mode ≡ false
live_goes Alone e = absurd (cc)
live_goes other e = refl

pub alone_not_stopped : (mode : Mode) → is_alone mode ≡ true → is_stopped mode ≡ false
alone_not_stopped Stopped e = absurd (cc)
alone_not_stopped other e = refl

-- a commit leaves no node alone, and ends no node's being alone
pub filled_alone : (mode : Mode) → is_alone (mode_filled mode) ≡ is_alone mode
filled_alone Filling = refl
filled_alone other = refl

-- a backup goes live only once it took a full checkpoint
pub live_full : (mode : Mode) → change_refusal GoLive mode ≡ None → is_filling mode ≡ false
live_full Filling e = absurd (cc)
live_full other e = refl

-- only a node that is alone gets a new backup
pub protect_goes : (mode : Mode) → change_refusal Protect mode ≡ None → is_alone mode ≡ true
protect_goes Alone e = refl
protect_goes other e = absurd (cc)

-- what isn't refused at all isn't by the mode
pub mode_passed : (o : Option Refusal) (rows : List Row) → first_of o rows ≡ None → o ≡ None
mode_passed None rows e = refl
mode_passed (Some why) rows e = absurd (cc)
