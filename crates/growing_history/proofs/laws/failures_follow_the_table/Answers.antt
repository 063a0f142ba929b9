use Rattle.std.proofs.Common.{refl}
use Rattle.growing_history.proofs.FailureLaws.{fails-primary, fails-backup, goes-live, protects}
use Rattle.growing_history.proofs.laws.failures_follow_the_table.Goals as goal

pub returns-clause-primary : goal.returns-clause-primary
returns-clause-primary c = λ s by needs. fails-primary s.mode needs.may.1

pub returns-clause-backup : goal.returns-clause-backup
returns-clause-backup c = λ s by needs. fails-backup s.mode needs.may.1

pub returns-clause-live : goal.returns-clause-live
returns-clause-live c = λ s by r needs. (goes-live s.mode needs.may.1, refl)

pub returns-clause-protected : goal.returns-clause-protected
returns-clause-protected c = λ s by b needs. (protects s.mode needs.may.1, refl)
