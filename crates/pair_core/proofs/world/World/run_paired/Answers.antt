use Rattle.std.proofs.Common.{◌<◌, ap, arith}
use Rattle.pair_core.specs.Pair.{Pair}
use Rattle.pair_core.specs.laws.Steps.{refusal_answered}
use Rattle.pair_core.proofs.world.World.run_paired.Goals as goal

pub returns-clause-outcome : goal.returns-clause-outcome
returns-clause-outcome c =
    let made = c.make_steps-made in
    let r = made.new.self.protocol.state in
    let most = made.ensures.most in
    let other = c.if-made-count.false in
    let fewer : made.result < c.args.count = omega arith in
    let ends = rw (ap (λ (v : Pair). v.start) made.ensures.made) at c.in-Some.ensures.refused in
    refusal_answered c.args.self.now.start c.args.self.now.protocol.state r made.result made.new.self.nodes.live.guest.steps c.in-Some.why
    made.ensures.answered ends c.args.count fewer
