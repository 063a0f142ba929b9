use Rattle.hypervisor.proofs.OpeningLaws.{first-runs}
use Rattle.hypervisor.proofs.boot.first_runner.Goals as goal

pub new-requires-clause-runs : goal.new-requires-clause-runs
new-requires-clause-runs g c =
    first-runs g.P.Pair.start c.args.machine c.args.seat c.members_begin.ensures.runner c.requires.seat c.requires.guest
