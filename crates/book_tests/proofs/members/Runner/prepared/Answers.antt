use Rattle.pair_book.specs.Settled.{settled_runner}
use Rattle.book_tests.proofs.members.Runner.prepared.Goals as goal

pub returns : goal.returns
returns g c =
    let start = g.P.Pair.start in
    let has = c.self.invariant in
    rw (← c.self.view_is) (c.runners_bring_what_they_have.ensures.prepared start c.self.inside.seat
    (settled_runner c.self.inside.machine has.1) c.in_ok-packet.packet has.2 (c.in_ok-packet.ensures start has.0))
