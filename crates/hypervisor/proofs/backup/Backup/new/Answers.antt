use Rattle.std.proofs.Common.{rules}
use Rattle.hypervisor.proofs.CommitLaws.{new_is_backup}
use Rattle.hypervisor.proofs.backup.Backup.new.Goals as goal

pub invariant_of-result : goal.invariant_of-result
invariant_of-result g c =
    let is = new_is_backup g.P.Pair.start c.args.image c.args.seat c.requires.unstaged c.requires.shape c.requires.stands in
    search (rules, is)
