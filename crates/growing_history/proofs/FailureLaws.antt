-- Failures and what follows them change the mode as failover's table says.
use Rattle.std.proofs.Common.{◌≡◌, refl, ap, Ok}
use Rattle.failover.specs.Changes.{row}
use Rattle.failover.specs.declared.mode.Mode.{Mode}
use Rattle.failover.specs.declared.mode.Mode.TheVariants.{Paired, Filling, Alone, Stopped}
use Rattle.failover.specs.declared.change.Change.TheVariants as changes
use Rattle.growing_history.specs.LogState.{HasBackup, IsAlone}

pub fails-primary : (m : Mode) → m ≡ Paired → row changes.FailPrimary m ≡ Ok (Stopped, 0)
fails-primary m is = ap (row changes.FailPrimary) is

pub fails-backup : (m : Mode) → HasBackup m → row changes.FailBackup m ≡ Ok (Alone, 0)
fails-backup Paired b = refl
fails-backup Filling b = refl
fails-backup Alone b = absurd b
fails-backup Stopped b = absurd b

pub goes-live : (m : Mode) → m ≡ Stopped → row changes.GoLive m ≡ Ok (Alone, 1)
goes-live m is = ap (row changes.GoLive) is

pub protects : (m : Mode) → IsAlone m → row changes.Protect m ≡ Ok (Filling, 1)
protects Paired a = absurd a
protects Filling a = absurd a
protects Alone a = refl
protects Stopped a = absurd a
