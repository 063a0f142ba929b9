-- Only what is staged changes, and only where the checkpoint is new.
use Rattle.std.proofs.Common.{ap}
use Rattle.backup_image.{specs.Images.stage_answer, proofs.StageLemmas.staged_after-kept}
use Rattle.backup_image.proofs.laws.staging_changes_no_guest.Goals as goal

pub returns-clause-unless_new : goal.returns-clause-unless_new
returns-clause-unless_new c = λ i d other. ap (λ s. record i { staged = s }) (staged_after-kept (stage_answer i d) d i.staged other)
