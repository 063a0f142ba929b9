use Rattle.std.proofs.{Common.{◌≡◌, ◌++◌, ◌+◌, [], subst, append-nil, arith, refl}, KnownBytes.Appends-nil}
use Rattle.script_player.specs.{Meaning.{Stage, Means, finished, ends}, internal.Playing.lines_left}
use Rattle.script_player.proofs.ScriptLemmas.{at-line, fewer, one-more, still-on, cut-before, cut-inside, line-ends, stopped-so}
use Rattle.script_player.proofs.LineLemmas.{texts}
use Rattle.script_player.specs.declared.sim.Stop.TheVariants as stops
use Rattle.script_player.proofs.sim.play.Goals as goal

pub loop-left-init : goal.loop-left-init
loop-left-init g c = (
  omega arith,
  record {
    done = [];
    printed = [];
    all = Appends-nil (g.O.Sink.written c.args.out.now).bytes;
    lines = refl;
    means = λ more rest ending m.
        subst (λ (s : Stage). Means g.O.Sink.no_memory s 1 more rest ending) c.new-player.ensures m;
  },
)

pub returns-in_err-show_before : goal.returns-in_err-show_before
returns-in_err-show_before g c =
    stopped-so g.O.Sink.no_memory c.args.source.now (g.O.Sink.written c.args.out.now) (g.O.Sink.written c.show_before.new.out) stops.Unwritten
    c.from_residual.result c.from_residual.ensures.1 (cut-before c.loop-left.invariant.1 c.in_err-show_before.ensures)

pub returns-in_err-print : goal.returns-in_err-print
returns-in_err-print g c =
    let split = at-line c.loop-left.left c.in-Some.text _ c.first_line.result.1 c.in-Some.is c.first_line.ensures.lines in
    let m = g.O.Sink.written c.show_before.new.out in
    let o' = g.O.Sink.written c.print.new.out in
    stopped-so g.O.Sink.no_memory c.args.source.now (g.O.Sink.written c.args.out.now) o' stops.Unwritten
    c.from_residual-in_err-print.result c.from_residual-in_err-print.ensures.1
    (cut-inside c.loop-left.invariant.1 split _ _ m o' c.in_ok-show_before.ensures c.step-turn.result (c.step-turn.ensures g.O.Sink.no_memory)
    (rw c.as_slice.ensures.value at c.in_err-print.ensures))

pub returns-in_err-goes_on : goal.returns-in_err-goes_on
returns-in_err-goes_on g c =
    let split = at-line c.loop-left.left c.in-Some.text _ c.first_line.result.1 c.in-Some.is c.first_line.ensures.lines in
    let m = g.O.Sink.written c.show_before.new.out in
    let o' = g.O.Sink.written c.print.new.out in
    stopped-so g.O.Sink.no_memory c.args.source.now (g.O.Sink.written c.args.out.now) o' c.in_err-goes_on.field-0.0
    c.from_residual-in_err-goes_on.result c.from_residual-in_err-goes_on.ensures.1
    (line-ends c.loop-left.invariant.1 split _ _ m o' c.in_ok-show_before.ensures c.step-turn.result (c.step-turn.ensures g.O.Sink.no_memory)
    (rw c.as_slice.ensures.value at c.in_ok-print.ensures) c.in_err-goes_on.field-0.0 (rw c.in_err-goes_on.was at c.stop_after-goes_on.ensures.err))

pub loop-left-preserved : goal.loop-left-preserved
loop-left-preserved g c =
    let few = fewer c.loop-left.left c.in-Some.text c.first_line.result.1 c.in-Some.is c.first_line.ensures.shorter in
    let count = c.loop-left.invariant.0 in
    let split = at-line c.loop-left.left c.in-Some.text _ c.first_line.result.1 c.in-Some.is c.first_line.ensures.lines in
    let step = still-on _ (c.loop-left.number + 1) c.step-turn.result (c.step-turn.ensures g.O.Sink.no_memory) (rw c.in_ok-goes_on.was at c.stop_after-goes_on.ensures.ok) in (
      omega arith,
      one-more c.loop-left.invariant.1 split _ _ (g.O.Sink.written c.show_before.new.out) (g.O.Sink.written c.print.new.out)
          c.in_ok-show_before.ensures step (rw c.as_slice.ensures.value at c.in_ok-print.ensures),
    )

pub returns : goal.returns
returns g c =
    let before = c.loop-left.invariant.1 in
    let all : before.done ++ lines_left (texts c.loop-left.left) ≡ before.done = rw c.in_default.is (append-nil before.done) in
    (before.printed, rw (before.lines, all) (simp append-nil at (before.means [] [] finished (ends _ _))), before.all)
