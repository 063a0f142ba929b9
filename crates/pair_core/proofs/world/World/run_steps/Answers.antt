use Rattle.std.proofs.Common.{rules, arith, inl}
use Rattle.pair_core.specs.laws.StepsServed.{steps_serve}
use Rattle.pair_core.proofs.world.World.run_steps.Goals as goal

pub returns-then-is_alone-clause-served : goal.returns-then-is_alone-clause-served
returns-then-is_alone-clause-served c =
    steps_serve c.args.self.now c.run_alone-answer.new.self c.args.count _ c.run_alone-answer.ensures.start c.keep_consistent.ensures
    c.keep_consistent-then-is_alone.ensures c.run_alone-answer.ensures.outcome.0

pub returns-clause-served : goal.returns-clause-served
returns-clause-served c =
    steps_serve c.args.self.now c.run_paired-answer.new.self c.args.count _ (search (arith, rules)) c.keep_consistent.ensures
    c.keep_consistent-2.ensures (inl c.run_paired-answer.ensures.outcome)
