use Rattle.hypervisor.proofs.Calls.{learned}
use Rattle.hypervisor.proofs.callers.CallerSeat.learn.Goals as goal

pub returns-clause-learns : goal.returns-clause-learns
returns-clause-learns g c =
    let e = c.learn.ensures in
    rw (← c.self.view_is) (learned g.P.Pair.start c.self.inside.seat c.learn.new.self c.args.badge.now c.self.invariant e.number e.seen
    e.told e.own e.legal c.a_call_is_a_point_of_one_history.ensures.none)
