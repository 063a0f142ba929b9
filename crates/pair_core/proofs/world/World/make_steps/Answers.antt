use Rattle.std.proofs.Common.{rules, sym, subst, arith}
use Rattle.pair_core.specs.{Invariant.Holds, internal.WorldFields.pair_of}
use Rattle.pair_core.specs.laws.Steps.{steps_hold, steps_answered}
use Rattle.pair_core.proofs.world.World.make_steps.Goals as goal

pub invariant_of-self : goal.invariant_of-self
invariant_of-self c =
    let w = pair_of c.self.inside in
    subst Holds (λ i. record w {
      protocol = record w.protocol { state = sym c.run.ensures.protocol i };
      ports = sym c.run.ensures.ports i;
      nodes = sym c.run-made.ensures.made i;
    })
    (steps_hold c.run-made.result w (rw (← c.self.view_is) at c.requires) c.self.invariant)

pub returns-clause-answered : goal.returns-clause-answered
returns-clause-answered c = search (arith, rules, steps_answered)
