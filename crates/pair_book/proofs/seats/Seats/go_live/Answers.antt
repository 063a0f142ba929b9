use Rattle.std.proofs.Common.{rules}
use Rattle.pair_book.proofs.LiveLaws.{went_live}
use Rattle.pair_book.proofs.seats.Seats.go_live.Goals as goal

pub invariant_of-self : goal.invariant_of-self
invariant_of-self g c =
    let s = c.self.inside in
    let live = went_live g.P.Pair.start s.keeper s.runner s.backup 0 c.self.invariant in
    search (rules, live)
