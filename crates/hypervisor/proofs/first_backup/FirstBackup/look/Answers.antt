use Rattle.hypervisor.proofs.Unmarked.{seen-on, all-unmarked}
use Rattle.hypervisor.proofs.first_backup.FirstBackup.look.Goals as goal

pub invariant_of-self : goal.invariant_of-self
invariant_of-self g c =
    seen-on c.sealed_commits_make_no_mark.ensures.others g.P.Pair.start c.args.book.now.steps c.self.inside.backup c.look.new.self
    c.self.invariant c.look.ensures.seen

pub returns-clause-unmarked : goal.returns-clause-unmarked
returns-clause-unmarked g c =
    all-unmarked c.sealed_commits_make_no_mark.ensures.others g.P.Pair.start c.args.book.now.steps c.self.inside.backup c.look.new.self
    c.self.invariant c.look.ensures.seen
