use Rattle.pair_book.proofs.LiveLaws.{next_is_new}
use Rattle.pair_book.proofs.seats.Seats.next.Goals as goal

pub returns-clause-new : goal.returns-clause-new
returns-clause-new g c =
    let s = c.self.inside in
    rw c.enrolled.ensures (rw (← c.self.view_is) (next_is_new g.P.Pair.start s.keeper s.runner s.backup c.self.invariant))
