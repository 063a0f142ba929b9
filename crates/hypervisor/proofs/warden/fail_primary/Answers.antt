use Rattle.hypervisor.proofs.FailureWhys.{primary-why}
use Rattle.hypervisor.proofs.warden.fail_primary.Goals as goal

pub returns-clause-among : goal.returns-clause-among
returns-clause-among g c = primary-why c.args.book.now c.fail_primary.result c.fail_primary.ensures.why
