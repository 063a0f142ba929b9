use Rattle.std.proofs.Common.{rules, Bool, Some, sym, subst, ◌∙◌}
use Rattle.std.specs.Prelude.{not}
use Rattle.hypervisor.specs.Commits.{AtBook}
use Rattle.hypervisor.proofs.CommitLaws.{refused-why, commit-why, row-of, at-book, stands-after}
use Rattle.hypervisor.proofs.backup_calls.commit.Goals as goal

pub returns-in-Some-refusal-clause-why : goal.returns-in-Some-refusal-clause-why
returns-in-Some-refusal-clause-why g c =
    rw c.in-Some.is (refused-why g.P.Pair.start c.args.book.now c.args.seat.now.number c.args.image.now c.in-Some.checkpoint.now
    c.in-Some-refusal.why (sym c.refusal.ensures ∙ c.in-Some-refusal.is))

pub returns-in_err-ack-clause-why : goal.returns-in_err-ack-clause-why
returns-in_err-ack-clause-why g c =
    let why = commit-why g.P.Pair.start c.args.book.now c.args.seat.now.number (Some c.in-Some.checkpoint.now) c.in_err-ack.field-0.0
    c.in_err-ack.ensures.why in
    rw c.in-Some.is (search (rules, why))

pub returns-in_err-ack-clause-row : goal.returns-in_err-ack-clause-row
returns-in_err-ack-clause-row g c =
    let row = row-of g.P.Pair.start c.args.book.now c.args.seat.now.number c.args.image.now c.in-Some.checkpoint.now
    c.in_err-ack.field-0.0 (sym c.refusal.ensures ∙ c.in_default-refusal.is) c.in_err-ack.ensures.why in
    rw c.in-Some.is (search (rules, row))

pub returns-clause-done : goal.returns-clause-done
returns-clause-done g c =
    let start = g.P.Pair.start in
    let book = c.args.book.now in
    let seat = c.args.seat.now in
    let after = c.commit-2.new in
    let image = c.args.image.now in
    let change = c.in-Some.checkpoint.now in
    let done =
    at-book start book after.self seat after.seat change c.in_ok-ack.ack image (sym c.refusal.ensures ∙ c.in_default-refusal.is)
    c.in_ok-ack.ensures.number c.keep.ensures.legal (rw c.in-Some.is at c.requires.was_read) c.requires.shape
    (rw c.in-Some.is at c.requires.same_shape) c.requires.stands c.in_ok-ack.ensures.done c.in_ok-ack.ensures.acknowledged
    c.in_ok-ack.ensures.stands c.in_ok-ack.ensures.again in
    rw c.in-Some.is
    (subst (λ (t : Bool). AtBook (not t) start change c.in_ok-ack.ack image seat after.seat) (sym c.is_earlier-is_next.ensures) done)

pub returns-clause-stands : goal.returns-clause-stands
returns-clause-stands g c =
    let start = g.P.Pair.start in
    let book = c.args.book.now in
    let seat = c.args.seat.now in
    let after = c.commit-2.new in
    let image = c.args.image.now in
    let change = c.in-Some.checkpoint.now in
    let done =
    at-book start book after.self seat after.seat change c.in_ok-ack.ack image (sym c.refusal.ensures ∙ c.in_default-refusal.is)
    c.in_ok-ack.ensures.number c.keep.ensures.legal (rw c.in-Some.is at c.requires.was_read) c.requires.shape
    (rw c.in-Some.is at c.requires.same_shape) c.requires.stands c.in_ok-ack.ensures.done c.in_ok-ack.ensures.acknowledged
    c.in_ok-ack.ensures.stands c.in_ok-ack.ensures.again in
    let at = subst (λ (t : Bool). AtBook (not t) start change c.in_ok-ack.ack image seat after.seat) (sym c.is_earlier-is_next.ensures) done in
    rw c.in-Some.is (stands-after start change c.in_ok-ack.ack image seat after.seat (not c.is_earlier-is_next.result) at)
