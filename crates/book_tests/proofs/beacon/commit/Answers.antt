use Rattle.std.proofs.Common.{ap, sym, subst, ◌∙◌}
use Rattle.growing_history.specs.Views.{Member}
use Rattle.pair_book.specs.Books.{BookState}
use Rattle.pair_book.specs.Commits.{StandsAfterNext, is_earlier}
use Rattle.book_tests.proofs.beacon.commit.Goals as goal

pub returns-in-Ok : goal.returns-in-Ok
returns-in-Ok g c = c.in-Ok.ensures.stands (sym c.is_earlier.ensures ∙ c.if-is_earlier.false)

pub returns-in-Ok-commit : goal.returns-in-Ok-commit
returns-in-Ok-commit g c =
    subst (λ (m : Member). StandsAfterNext g.P.Pair.start c.args.checkpoint.now c.in-Ok-commit.ack m c.commit-2.new.seat)
    c.in-Err-NoMemory.ensures.refused.1
    (c.in-Ok-commit.ensures.stands
    (ap (λ (b : BookState). is_earlier b c.args.checkpoint.now) c.in-Err-NoMemory.ensures.refused.0
    ∙ sym c.is_earlier.ensures ∙ c.if-is_earlier.false))
