use Rattle.hypervisor.proofs.FailureWhys.{backup-why}
use Rattle.hypervisor.proofs.warden.fail_backup.Goals as goal

pub returns-clause-among : goal.returns-clause-among
returns-clause-among g c = backup-why c.args.book.now c.fail_backup.result c.fail_backup.ensures.why
