use Rattle.std.proofs.Common.{subst}
use Rattle.growing_history.specs.Views.{Member}
use Rattle.pair_book.specs.Settled.{RunsOn}
use Rattle.book_tests.proofs.beacon.submit.Goals as goal

pub returns-in-Ok-submit : goal.returns-in-Ok-submit
returns-in-Ok-submit g c =
    subst
    (λ (m : Member).
    RunsOn g.P.Pair.start m c.submit-2.new.seat 0 c.args.steps c.args.frames.now c.in-Ok-submit.next.frames.items)
    c.in-Err-NoMemory.ensures.refused.1 c.in-Ok-submit.ensures.runs
