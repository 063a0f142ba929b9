use Rattle.std.proofs.Common.{rules, ◌≡◌, ◌+◌, ◌-◌, List, map, sym, subst, ◌∙◌}
use Rattle.std.specs.Prelude.{All}
use Rattle.backup_image.specs.Kept.{count_kept, first_kept}
use Rattle.frame_ports.specs.Addresses.{IsFrame}
use Rattle.pair_history.specs.Entries.{Frame}
use Rattle.pair_record.specs.Kept.{brought_done}
use Rattle.hypervisor.specs.Backups.{kept_of}
use Rattle.hypervisor.proofs.{GoLiveLaws.{go-live-why, goes-live-with}, StandLaws.each-of}
use Rattle.hypervisor.proofs.backup_calls.go_live.Goals as goal

pub go_live-requires-clause-frames : goal.go_live-requires-clause-frames
go_live-requires-clause-frames g c =
    each-of (λ v. v.items) (λ fs. All IsFrame fs) c.epochs.result.now
    (subst (λ (l : List (List Frame)). All (λ fs. All IsFrame fs) l) (sym c.epochs.ensures.value) c.epochs.ensures.rules.frames)

pub returns-in_err-runner-clause-why : goal.returns-in_err-runner-clause-why
returns-in_err-runner-clause-why g c =
    let why = go-live-why g.P.Pair.start c.args.book.now c.args.seat.now.number c.first.result (map (λ v. v.items) c.epochs.result.now)
    c.in_err-runner.field-0.0 c.in_err-runner.ensures.why in
    search (rules, why)

pub returns-clause-live : goal.returns-clause-live
returns-clause-live g c =
    let i = c.args.image.now in
    let kept = c.kept-kept.ensures in
    let lists : map (λ v. v.items) c.epochs.result.now ≡ i.kept = c.epochs.ensures.value ∙ kept.lists in
    let first : c.first.result ≡ first_kept (kept_of i) =
    c.first.ensures.value ∙ (λ k. kept.sent k + 1 - count_kept (kept.lists k)) in
    goes-live-with g.P.Pair.start c.args.book.now c.go_live.new.self c.args.seat.now c.go_live.new.seat c.in_ok-runner.runner i
    c.first.result (map (λ v. v.items) c.epochs.result.now) c.in_ok-runner.ensures.step c.in_ok-runner.ensures.runner
    c.keep.ensures.legal c.steps_go_on.ensures.state c.in_ok-runner.ensures.runs first lists c.requires.stands

pub returns-clause-done : goal.returns-clause-done
returns-clause-done g c =
    let i = c.args.image.now in
    let b = c.args.book.now in
    let kept = c.kept-kept.ensures in
    let lists : map (λ v. v.items) c.epochs.result.now ≡ i.kept = c.epochs.ensures.value ∙ kept.lists in
    let first : c.first.result ≡ first_kept (kept_of i) =
    c.first.ensures.value ∙ (λ k. kept.sent k + 1 - count_kept (kept.lists k)) in
    λ steps. c.in_ok-runner.ensures.done steps ∙ (λ k. brought_done b.protocol b.ports (first k) (lists k) steps)
