-- The step that a call stands for.
use Rattle.pair_history.specs.Log.{all_expanded}
use Rattle.growing_history.specs.Steps as steps
use Rattle.growing_history.specs.declared.what.What.{What}
use Rattle.growing_history.specs.declared.what.What.TheVariants.{Added, Sealed, RanAlone, Committed, PrimaryFailed, BackupFailed, WentLive}
use Rattle.growing_history.specs.declared.what.What.TheVariants.{Protected}

abbrev pub meaning : What → steps.What
meaning (Added es) = steps.Added (all_expanded es.now)
meaning (Sealed generation number epoch text) = steps.Sealed generation number (all_expanded epoch.now) text.now
meaning (RanAlone epoch) = steps.RanAlone (all_expanded epoch.now)
meaning (Committed generation number text) = steps.Committed generation number text.now
meaning PrimaryFailed = steps.PrimaryFailed
meaning BackupFailed = steps.BackupFailed
meaning (WentLive runner) = steps.WentLive runner
meaning (Protected backup) = steps.Protected backup
