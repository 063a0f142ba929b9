use Rattle.hypervisor.proofs.Calls.{seen-all}
use Rattle.hypervisor.proofs.callers.CallerSeat.look.Goals as goal

pub returns-clause-sees : goal.returns-clause-sees
returns-clause-sees g c =
    rw (← c.self.view_is) (seen-all g.P.Pair.start c.args.book.now c.self.inside.seat c.show.new.seat c.self.invariant c.show.ensures.shows
    c.show.ensures.legal c.a_call_is_a_point_of_one_history.ensures.none)
