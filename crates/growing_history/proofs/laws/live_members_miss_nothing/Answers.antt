use Rattle.std.proofs.Common.{[], refl}
use Rattle.growing_history.specs.LogState.{state_at}
use Rattle.growing_history.proofs.Missed.{handed-stays, keeps-all, epochs-stay}
use Rattle.growing_history.specs.laws.MissedByBackup.{backup-misses-nothing}
use Rattle.growing_history.proofs.laws.live_members_miss_nothing.Goals as goal

pub returns-clause-handed : goal.returns-clause-handed
returns-clause-handed c = handed-stays

-- that is what the epoch of nothing makes
pub returns-clause-runner : goal.returns-clause-runner
returns-clause-runner c = λ h old now n b l own was is none.
    (keeps-all h old now n b l own c.client_entries_go_first.ensures was is none).guest [] (tt, ((state_at h old).handed, refl))

pub returns-clause-frames : goal.returns-clause-frames
returns-clause-frames c = λ h old now n b l own was is none.
    (keeps-all h old now n b l own c.client_entries_go_first.ensures was is none).frames

pub returns-clause-epoch : goal.returns-clause-epoch
returns-clause-epoch c = λ h old now n b l own. epochs-stay h old now n b l own c.client_entries_go_first.ensures

pub returns-clause-backup : goal.returns-clause-backup
returns-clause-backup c = backup-misses-nothing
