use Rattle.hypervisor.proofs.Whys.{ack-refused}
use Rattle.hypervisor.proofs.sender.acked.Goals as goal

pub returns-clause-among : goal.returns-clause-among
returns-clause-among g c = ack-refused c.args.book.now c.args.ack c.acked.result c.acked.ensures.why
