use Rattle.hypervisor.proofs.FeedLaws.{stays_fed, stays_failed}
use Rattle.hypervisor.proofs.backup.Backup.feed.Goals as goal

pub invariant_of-self : goal.invariant_of-self
invariant_of-self g c =
    stays_failed g.P.Pair.start _ _ c.args.bytes.now c.byte_widths.ensures _ _ _ _ c.self.invariant c.in_err-count.ensures.answers

pub invariant_of-self-2 : goal.invariant_of-self-2
invariant_of-self-2 g c =
    stays_fed g.P.Pair.start _ _ c.args.bytes.now c.byte_widths.ensures _ _ _ _ _ _ c.read_is_its_text.ensures c.self.invariant
    c.in_ok-count.ensures.answers c.next.ensures.whole c.next.ensures.none
