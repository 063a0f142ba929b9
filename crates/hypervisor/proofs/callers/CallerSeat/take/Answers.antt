use Rattle.hypervisor.proofs.Calls.{took, not-taken}
use Rattle.hypervisor.proofs.Whys.{take-why}
use Rattle.hypervisor.proofs.callers.CallerSeat.take.Goals as goal

pub returns-clause-done : goal.returns-clause-done
returns-clause-done g c =
    rw (← c.self.view_is) (took g.P.Pair.start c.args.book.now c.take-taken.new.self c.self.inside.seat c.take-taken.new.seat
    c.self.invariant c.keep_seat.ensures c.a_call_is_a_point_of_one_history.ensures.call c.take-taken.new.into c.take-taken.result
    c.take-taken.ensures.step)

pub returns-clause-why : goal.returns-clause-why
returns-clause-why g c = take-why c.args.book.now c.take-taken.result c.take-taken.ensures.why

pub returns-clause-refused : goal.returns-clause-refused
returns-clause-refused g c =
    rw (← c.self.view_is) (not-taken g.P.Pair.start c.args.book.now c.take-taken.new.self c.self.inside.seat c.take-taken.new.seat
    c.self.invariant c.keep_seat.ensures c.a_call_is_a_point_of_one_history.ensures.call c.args.into.now c.take-taken.new.into
    c.take-taken.result c.take-taken.ensures.refused)
