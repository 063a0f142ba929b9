use Rattle.std.proofs.Common.{List, [], sym, subst, ◌∙◌}
use Rattle.pair_history.specs.Entries.{Frame}
use Rattle.growing_history.specs.Views.{Member}
use Rattle.pair_book.specs.declared.prepared.Prepared.TheVariants as prepared
use Rattle.pair_book.specs.Made.{IsPrepared}
use Rattle.pair_book.specs.Settled.{EpochFollows, Runs, RunsOn, RunnerOutside, runner_outside}
use Rattle.book_tests.proofs.EpochOfSteps.{StepLaws, runs-steps, steps-like, steps-shape, steps-made, was-read}
use Rattle.book_tests.proofs.beacon.seal.Goals as goal

pub submit-requires-clause-settled : goal.submit-requires-clause-settled
submit-requires-clause-settled g c =
    let start = g.P.Pair.start in
    let m = c.args.machine.now in
    let n = c.args.steps in
    let x : RunnerOutside = runner_outside 0 n [] m.guest m.outbox start.guest in
    let runs : Runs start c.args.runner.now x =
    subst (λ (seat : Member). Runs start seat x) (sym c.requires.seat)
    (runs-steps start _ start.guest n m (c.members_begin.ensures.runner start) c.requires.guest c.requires.outbox) in
    subst (λ (fs : List Frame). EpochFollows start c.args.runner.now 0 n fs) (sym c.outbox-frames.ensures.value)
    (c.runners_bring_what_they_have.ensures.settled start c.args.runner.now x runs)

pub submit-requires-clause-prepared : goal.submit-requires-clause-prepared
submit-requires-clause-prepared g c =
    let start = g.P.Pair.start in
    let m = c.args.machine.now in
    let n = c.args.steps in
    let x : RunnerOutside = runner_outside 0 n [] m.guest m.outbox start.guest in
    let runs : Runs start c.args.runner.now x =
    subst (λ (seat : Member). Runs start seat x) (sym c.requires.seat)
    (runs-steps start _ start.guest n m (c.members_begin.ensures.runner start) c.requires.guest c.requires.outbox) in
    let laws : StepLaws = record {
      bytes = c.kept_memory.ensures.bytes;
      records = c.kept_memory.ensures.rules;
      disk = c.kept_disk.ensures.bytes;
      others = λ k h i none. (c.changed_sectors_are_listed.ensures.run k h []).others i none;
    } in
    let parts = c.in_ok-checkpoint.ensures.parts in
    let made =
    steps-made laws start c.requires.records n m c.requires.guest c.requires.dirty c.requires.settled
    c.in_ok-checkpoint.checkpoint parts.pages_size parts.sectors_size c.in_ok-packet.packet (c.in_ok-packet.ensures.number ∙ parts.number)
    c.in_ok-packet.ensures.read parts.frames c.in_ok-checkpoint.ensures.image in
    subst (λ (fs : List Frame). IsPrepared start c.args.runner.now 0 n fs (prepared.Checkpoint c.in_ok-packet.packet))
    (sym c.outbox-frames.ensures.value)
    (c.runners_bring_what_they_have.ensures.prepared start c.args.runner.now x c.in_ok-packet.packet runs made)

pub returns-clause-runs : goal.returns-clause-runs
returns-clause-runs g c =
    let start = g.P.Pair.start in
    let m = c.args.machine.now in
    let n = c.args.steps in
    let x : RunnerOutside = runner_outside 0 n [] m.guest m.outbox start.guest in
    let runs : Runs start c.args.runner.now x =
    subst (λ (seat : Member). Runs start seat x) (sym c.requires.seat)
    (runs-steps start _ start.guest n m (c.members_begin.ensures.runner start) c.requires.guest c.requires.outbox) in
    let on : RunsOn start c.args.runner.now c.submit.new.runner 0 n m.outbox c.in_ok-next.next.frames.items =
    subst (λ (fs : List Frame). RunsOn start c.args.runner.now c.submit.new.runner 0 n fs c.in_ok-next.next.frames.items)
    c.outbox-frames.ensures.value c.in_ok-next.ensures in (c.in_ok-next.next.frames.items, on [] m.guest start.guest runs)

pub returns-clause-like : goal.returns-clause-like
returns-clause-like g c =
    let start = g.P.Pair.start in
    let laws : StepLaws = record {
      bytes = c.kept_memory.ensures.bytes;
      records = c.kept_memory.ensures.rules;
      disk = c.kept_disk.ensures.bytes;
      others = λ k h i none. (c.changed_sectors_are_listed.ensures.run k h []).others i none;
    } in
    steps-like laws start c.requires.records c.args.steps c.args.machine.now c.requires.guest c.requires.dirty c.requires.settled

pub returns-clause-read : goal.returns-clause-read
returns-clause-read g c =
    was-read c.in_ok-checkpoint.checkpoint c.in_ok-packet.packet c.in_ok-packet.ensures.read c.in_ok-packet.ensures.text

pub returns-clause-shape : goal.returns-clause-shape
returns-clause-shape g c =
    let start = g.P.Pair.start in
    let m = c.args.machine.now in
    let n = c.args.steps in
    let laws : StepLaws = record {
      bytes = c.kept_memory.ensures.bytes;
      records = c.kept_memory.ensures.rules;
      disk = c.kept_disk.ensures.bytes;
      others = λ k h i none. (c.changed_sectors_are_listed.ensures.run k h []).others i none;
    } in
    let parts = c.in_ok-checkpoint.ensures.parts in
    steps-shape laws start c.requires.records n m c.requires.guest c.requires.dirty c.requires.settled
    c.in_ok-checkpoint.checkpoint parts.pages_size parts.sectors_size
