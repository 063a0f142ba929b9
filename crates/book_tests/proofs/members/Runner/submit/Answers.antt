use Rattle.std.proofs.Common.{◌++◌}
use Rattle.pair_book.specs.Settled.{settled_runner}
use Rattle.book_tests.proofs.members.Runner.submit.Goals as goal

pub submit-requires-clause-settled : goal.submit-requires-clause-settled
submit-requires-clause-settled g c =
    let has = c.self.invariant in
    c.runners_bring_what_they_have.ensures.settled g.P.Pair.start c.self.inside.seat (settled_runner c.self.inside.machine has.1) has.2

pub invariant_of-self-2 : goal.invariant_of-self-2
invariant_of-self-2 g c =
    let has = c.self.invariant in
    let guest = c.self.inside.machine in (has.0, has.1 ++ c.in_ok-next.next.frames.items, c.in_ok-next.ensures.runs has.1 guest guest has.2)
