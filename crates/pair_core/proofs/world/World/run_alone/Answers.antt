use Rattle.std.proofs.Common.{rules, ◌∙◌, ◌+◌, refl, ap, arith, inl}
use Rattle.pair_record.specs.Modes.{is_alone}
use Rattle.pair_core.specs.laws.{LoneSteps.steps_join, Steps.{no-steps-answered, refusal_answered}}
use Rattle.pair_core.proofs.world.World.run_alone.Goals as goal

pub loop-made-init : goal.loop-made-init
loop-made-init c = search (arith, rules, no-steps-answered)

pub returns-in-Some-clause-outcome : goal.returns-in-Some-clause-outcome
returns-in-Some-clause-outcome c =
    let w = c.args.self.now in
    let v = c.loop-made.invariant in
    let r = c.loop-made.self.protocol.state in
    let ends = rw v.start at c.in-Some.ensures.refused in (
      inl (refusal_answered w.start w.protocol.state r c.loop-made.made c.loop-made.self.nodes.live.guest.steps c.in-Some.why v.answered ends
          c.args.count c.loop-made-test.true),
      v.lines,
    )

pub loop-made-preserved : goal.loop-made-preserved
loop-made-preserved c =
    let w = c.args.self.now in
    let v = c.loop-made.invariant in
    let n = c.in_ok-steps.steps in
    let made = c.in_ok-steps.ensures in
    let mid = c.loop-made.self in
    let new = c.step_alone.new.self in
    let kept = c.step_alone.ensures.backup in
    let answered = rw v.start at made.answered in
    record {
      most = let a = made.most in let b = c.loop-made-test.true in omega arith;
      alone = ap is_alone c.step_alone.ensures.mode ∙ v.alone;
      start = c.step_alone.ensures.start ∙ v.start;
      lines = c.step_alone.ensures.lines ∙ v.lines;
      backup = (kept.0 ∙ v.backup.0, kept.1 ∙ v.backup.1);
      answered =
          answered
          ∙ steps_join w.start w.protocol.state mid.protocol.state c.loop-made.made mid.nodes.live.guest.steps v.answered n (c.loop-made.made + n)
          made.some refl;
      none = λ e. absurd (let some = made.some in omega arith);
    }
