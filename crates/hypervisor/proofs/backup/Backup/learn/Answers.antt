use Rattle.hypervisor.proofs.FirstBackups.{seat-on}
use Rattle.hypervisor.proofs.backup.Backup.learn.Goals as goal

pub invariant_of-self : goal.invariant_of-self
invariant_of-self g c =
    let e = c.learn.ensures in
    seat-on g.P.Pair.start _ _ _ _ c.self.invariant c.learn.new.self c.members_go_on.ensures.backup e.number
    (record { legal = e.legal; seen = e.seen; own = e.own })
