use Rattle.std.proofs.Common.{sym, subst, [], Some}
use Rattle.growing_history.specs.Views.{Member}
use Rattle.pair_book.specs.Standing.{Stands, first_ack}
use Rattle.book_tests.proofs.EpochOfSteps.{keeps-first}
use Rattle.book_tests.proofs.beacon.commit_first.Goals as goal

pub returns : goal.returns
returns g c =
    let start = g.P.Pair.start in
    keeps-first start c.args.checkpoint.now c.in_ok-ack.ack c.args.backup.now c.commit.new.backup c.requires.number c.in_ok-ack.ensures
    c.requires.read c.requires.shape
    (subst (λ (m : Member). Stands start m start.guest (Some first_ack) 0 1 []) (sym c.requires.seat) (c.members_begin.ensures.backup start))
