use Rattle.std.proofs.Common.{rules, ◌≡◌, length, ap, ◌∙◌}
use Rattle.pair_history.specs.Failures.{arrived_numbers}
use Rattle.pair_book.specs.Handing.{Handing, handing}
use Rattle.pair_book.specs.Submitting.{ended_as}
use Rattle.pair_book.proofs.SubmitEnds.{none-runs, some-run}
use Rattle.pair_book.proofs.submitting.end_and_hand_out.Goals.{then-handed-eq0, else-handed-eq0}
use Rattle.pair_book.proofs.submitting.end_and_hand_out.Goals as goal

pub returns-clause-done : goal.returns-clause-done
returns-clause-done c =
    let old = c.args.pair.now in
    let kind = c.args.kind in
    let n = c.args.epoch.arrivals in
    let steps = c.args.epoch.steps in
    let fs = c.args.frames.now in
    let before : Handing = ended_as kind n steps fs old.protocol old.ports in
    let protocol = c.in_ok-end.ensures.protocol in
    let ports = c.in_ok-end.ensures.ports in
    let kept = c.in_ok-reserve_arrivals.ensures.same in
    let there : handing c.end.new.pair.protocol c.end.new.pair.ports c.in_ok-next.next.items ≡ before = search (rules) in
    let handed : c.handed.result ≡ length (arrived_numbers before.protocol.journal.running) =
    c.handed.ensures ∙ ap (λ (x : Handing). length (arrived_numbers x.protocol.journal.running)) there in
    elim c.if-handed-eq0.branch [
      | then-handed-eq0 w ↦ search (rules, there, handed, none-runs kind n steps fs old.protocol old.ports c.requires.only)
      | else-handed-eq0 w ↦ search (rules, there, handed, some-run kind n steps fs old.protocol old.ports c.requires.only)
    ]
