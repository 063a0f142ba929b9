use Rattle.std.proofs.Common.{rules}
use Rattle.pair_book.proofs.LiveLaws.{still_live}
use Rattle.pair_book.proofs.seats.Seats.step_alone.Goals as goal

pub invariant_of-self : goal.invariant_of-self
invariant_of-self g c =
    let s = c.self.inside in
    let live = still_live g.P.Pair.start s.keeper s.runner s.backup 0 c.self.invariant (g.W.Tells.what c.args.what.now) c.requires.live in
    search (rules, live)
