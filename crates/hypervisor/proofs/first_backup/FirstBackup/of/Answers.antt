use Rattle.hypervisor.proofs.Unmarked.{first-begins}
use Rattle.hypervisor.proofs.first_backup.FirstBackup.of.Goals as goal

pub invariant_of-result : goal.invariant_of-result
invariant_of-result g c =
    let start = g.P.Pair.start in
    first-begins start c.args.backup (c.sealed_commits_make_no_mark.ensures.start start) c.requires.seat c.requires.read
