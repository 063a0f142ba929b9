use Rattle.hypervisor.proofs.Unmarked.{commit-tried}
use Rattle.hypervisor.proofs.first_backup.FirstBackup.commit.Goals as goal

pub invariant_of-self : goal.invariant_of-self
invariant_of-self g c =
    let e = c.commit.ensures in
    let law = c.sealed_commits_make_no_mark.ensures in
    commit-tried law.others law.own g.P.Pair.start c.self.inside.backup c.commit.new.self c.commit.result c.self.invariant e.some e.done e.refused
