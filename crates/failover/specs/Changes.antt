-- The state table of the pair: what each change makes of it in each mode. Four modes by four changes.
use Rattle.std.specs.Prelude.{ℕ, Result, Ok, Err}
use Rattle.failover.specs.declared.mode.Mode.{Mode}
use Rattle.failover.specs.declared.mode.Mode.TheVariants.{Paired, Filling, Alone, Stopped}
use Rattle.failover.specs.declared.change.Change.{Change}
use Rattle.failover.specs.declared.change.Change.TheVariants.{FailPrimary, FailBackup, GoLive, Protect}
use Rattle.failover.specs.declared.errors.FailoverError.{FailoverError}
use Rattle.failover.specs.declared.errors.FailoverError.TheVariants.{NotPaired, AlreadyPaired, NoImage, Stopped as HasStopped}

-- a row: the mode after the change, and by how much the generation's number rises; or the refusal
abbrev pub row : Change → Mode → Result (Mode × ℕ) FailoverError
row FailPrimary Paired = Ok (Stopped, 0)
row FailPrimary Filling = Err NoImage
row FailPrimary Alone = Err NoImage
row FailPrimary Stopped = Err HasStopped
row FailBackup Paired = Ok (Alone, 0)
row FailBackup Filling = Ok (Alone, 0)
row FailBackup Alone = Err NotPaired
row FailBackup Stopped = Err HasStopped
row GoLive Paired = Err AlreadyPaired
row GoLive Filling = Err AlreadyPaired
row GoLive Alone = Err NotPaired
row GoLive Stopped = Ok (Alone, 1)
row Protect Paired = Err AlreadyPaired
row Protect Filling = Err AlreadyPaired
row Protect Alone = Ok (Filling, 1)
row Protect Stopped = Err HasStopped
