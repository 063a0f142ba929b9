use Rattle.std.proofs.Common.{◌++◌, List, subst, sym}
use Rattle.pair_history.specs.Entries.{Frame}
use Rattle.pair_book.specs.Calls.{IsWhy}
use Rattle.pair_book.specs.Handing.{handing, HandsNext}
use Rattle.pair_book.specs.Made.{IsPrepared}
use Rattle.pair_book.specs.Settled.{settled_runner, Runs, RunsOn}
use Rattle.pair_book.specs.Submitting.{ended, submit_why}
use Rattle.hypervisor.specs.AtBook.{EndsAtBook}
use Rattle.hypervisor.specs.Runners.{RunnerState, runner_state}
use Rattle.hypervisor.proofs.Submitting.{brings-prepared, submits, none-behind, holds-handed, submit-why}
use Rattle.hypervisor.proofs.runner.submit.Goals as goal

pub submit-requires-clause-prepared : goal.submit-requires-clause-prepared
submit-requires-clause-prepared g c =
    let a = c.args in
    let r : RunnerState = runner_state a.machine.now a.held.now a.epoch.arrivals a.epoch.steps a.what.now a.seat.now in
    subst (λ (fs : List Frame). IsPrepared g.P.Pair.start a.seat.now a.epoch.arrivals a.epoch.steps fs a.what.now)
    (sym c.outbox.ensures.value)
    (brings-prepared g.P.Pair.start r c.requires a.what.now c.runners_bring_what_they_have.ensures.prepared c.requires.prepared)

pub returns-in-Err-clause-why : goal.returns-in-Err-clause-why
returns-in-Err-clause-why g c =
    let a = c.args in
    subst (λ (fs : List Frame). IsWhy (submit_why g.P.Pair.start a.book.now a.seat.now.number a.what.now a.epoch.steps fs) c.in-Err.why)
    c.outbox.ensures.value c.in-Err.ensures.why

pub returns-in-Err-clause-among : goal.returns-in-Err-clause-among
returns-in-Err-clause-among g c =
    let a = c.args in
    submit-why g.P.Pair.start a.book.now a.seat.now.number a.what.now a.epoch.steps c.outbox.result.now c.in-Err.why c.in-Err.ensures.why

pub returns-clause-book : goal.returns-clause-book
returns-clause-book g c =
    let a = c.args in
    let done = c.in-Ok.ensures in
    subst
    (λ (fs : List Frame). EndsAtBook g.P.Pair.start a.book.now c.submit.new.self a.seat.now c.submit.new.seat a.epoch.arrivals a.epoch.steps fs
    a.what.now c.in-Ok.next.frames.items)
    c.outbox.ensures.value (record { free = done.free; step = done.step; texts = done.texts; hands = done.done })

pub returns-clause-added : goal.returns-clause-added
returns-clause-added g c =
    let a = c.args in
    let r : RunnerState = runner_state a.machine.now a.held.now a.epoch.arrivals a.epoch.steps a.what.now a.seat.now in
    let law = c.steps_go_on.ensures in
    submits g.P.Pair.start r c.requires a.book.now c.submit.new.self c.submit.new.seat c.in-Ok.ensures.step c.keep.ensures.legal
    c.keep_seat-2.ensures c.keep.ensures.running law.needed law.state c.members_go_on.ensures.runner

pub returns-clause-runs : goal.returns-clause-runs
returns-clause-runs g c =
    let a = c.args in
    let is = c.requires.runs in
    let on : RunsOn g.P.Pair.start a.seat.now c.submit.new.seat a.epoch.arrivals a.epoch.steps a.machine.now.outbox c.in-Ok.next.frames.items =
    subst
    (λ (fs : List Frame).
    RunsOn g.P.Pair.start a.seat.now c.submit.new.seat a.epoch.arrivals a.epoch.steps fs c.in-Ok.next.frames.items)
    c.outbox.ensures.value c.in-Ok.ensures.runs in
    on a.held.now a.machine.now.guest is.settled is.runs

pub returns-clause-rest : goal.returns-clause-rest
returns-clause-rest g c =
    let a = c.args in
    let b = c.submit.new.self in
    let r : RunnerState = runner_state a.machine.now a.held.now a.epoch.arrivals a.epoch.steps a.what.now a.seat.now in
    let law = c.steps_go_on.ensures in
    let hands : HandsNext (ended a.book.now a.epoch.arrivals a.epoch.steps a.machine.now.outbox)
    (handing b.protocol b.ports c.in-Ok.next.frames.items) =
    subst
    (λ (fs : List Frame).
    HandsNext (ended a.book.now a.epoch.arrivals a.epoch.steps fs) (handing b.protocol b.ports c.in-Ok.next.frames.items))
    c.outbox.ensures.value c.in-Ok.ensures.done in
    none-behind g.P.Pair.start r c.requires a.book.now b c.submit.new.seat c.in-Ok.ensures.step c.keep.ensures.legal
    c.keep_seat-2.ensures c.keep.ensures.running law.needed law.state c.members_go_on.ensures.runner b.ports b.protocol
    c.in-Ok.next.frames.items hands

pub returns-clause-handed : goal.returns-clause-handed
returns-clause-handed g c =
    let a = c.args in
    let r : RunnerState = runner_state a.machine.now a.held.now a.epoch.arrivals a.epoch.steps a.what.now a.seat.now in
    let law = c.steps_go_on.ensures in
    let on : Runs g.P.Pair.start c.submit.new.seat (settled_runner a.machine.now.guest (a.held.now ++ c.in-Ok.next.frames.items)) =
    returns-clause-runs g c in
    holds-handed g.P.Pair.start r c.requires a.book.now c.submit.new.self c.submit.new.seat c.in-Ok.ensures.step c.keep.ensures.legal
    c.keep_seat-2.ensures c.keep.ensures.running law.needed law.state c.members_go_on.ensures.runner a.machine.now.guest _ on
