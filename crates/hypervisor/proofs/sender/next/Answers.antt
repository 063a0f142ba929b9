use Rattle.hypervisor.proofs.Whys.{next-why}
use Rattle.hypervisor.proofs.sender.next.Goals as goal

pub returns-clause-among : goal.returns-clause-among
returns-clause-among g c = next-why c.args.book.now c.next.result c.next.ensures.why
