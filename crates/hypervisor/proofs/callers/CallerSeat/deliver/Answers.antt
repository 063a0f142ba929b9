use Rattle.hypervisor.proofs.Calls.{delivered, not-delivered}
use Rattle.hypervisor.proofs.Whys.{deliver-why, deliver-good}
use Rattle.pair_book.specs.Calls.{client_of}
use Rattle.hypervisor.proofs.callers.CallerSeat.deliver.Goals as goal

pub returns-clause-done : goal.returns-clause-done
returns-clause-done g c =
    rw (← c.self.view_is) (delivered g.P.Pair.start c.args.book.now c.deliver-delivered.new.self c.self.inside.seat
    c.deliver-delivered.new.seat c.self.invariant c.keep_seat.ensures c.a_call_is_a_point_of_one_history.ensures.call c.args.bytes.now
    c.deliver-delivered.result c.deliver-delivered.ensures.step)

pub returns-clause-frame : goal.returns-clause-frame
returns-clause-frame g c =
    deliver-good c.args.book.now (client_of c.self.inside.seat.number) c.args.bytes.now c.deliver-delivered.result
    c.deliver-delivered.ensures.free

pub returns-clause-why : goal.returns-clause-why
returns-clause-why g c =
    deliver-why c.args.book.now (client_of c.self.inside.seat.number) c.args.bytes.now c.deliver-delivered.result
    c.deliver-delivered.ensures.why

pub returns-clause-refused : goal.returns-clause-refused
returns-clause-refused g c =
    rw (← c.self.view_is) (not-delivered g.P.Pair.start c.args.book.now c.deliver-delivered.new.self c.self.inside.seat
    c.deliver-delivered.new.seat c.self.invariant c.keep_seat.ensures c.a_call_is_a_point_of_one_history.ensures.call
    c.args.bytes.now c.deliver-delivered.result c.keep.ensures.clients c.keep.ensures.inboxes c.deliver-delivered.ensures.why
    c.deliver-delivered.ensures.refused)
