use Rattle.hypervisor.proofs.OpeningLaws.{first-stands}
use Rattle.hypervisor.proofs.boot.first_backup.Goals as goal

pub new-requires-clause-stands : goal.new-requires-clause-stands
new-requires-clause-stands g c =
    first-stands g.P.Pair.start c.args.image c.args.seat c.members_begin.ensures.backup c.requires.seat c.requires.image
