use Rattle.std.proofs.Common.{rules, arith, ap, refl}
use Rattle.pair_record.specs.declared.event.Event.TheVariants.{Step}
use Rattle.pair_core.specs.Pair.{Pair}
use Rattle.pair_core.specs.laws.{LoneSteps.{paired_step_answered, lone_step_answered}, Serves.one_event_serves, Steps.{one-step-answered, refused_step}}
use Rattle.pair_core.proofs.world.World.step.Goals as goal

pub returns-then-is_alone-clause-answers : goal.returns-then-is_alone-clause-answers
returns-then-is_alone-clause-answers c = lone_step_answered _ _ _ c.run_alone-answer.result c.run_alone-answer.ensures.outcome

pub returns-clause-answers : goal.returns-clause-answers
returns-clause-answers c =
    paired_step_answered _ _ _ c.run_paired-answer.result c.run_paired-answer.ensures.outcome
    (ap (λ (v : Pair). v.protocol.lines) c.run_paired-answer.ensures.made.1)

pub returns-clause-refused : goal.returns-clause-refused
returns-clause-refused c = search (arith, rules, one-step-answered, refused_step)

pub returns-then-is_alone-clause-grows : goal.returns-then-is_alone-clause-grows
returns-then-is_alone-clause-grows c =
    let d = c.keep_drops.ensures Step _ _ (lone_step_answered _ _ _ c.run_alone-answer.result c.run_alone-answer.ensures.outcome) in
    (d.entries, d.grows)

pub returns-then-is_alone-clause-drops : goal.returns-then-is_alone-clause-drops
returns-then-is_alone-clause-drops c = c.keep_drops.ensures Step _ _ (lone_step_answered _ _ _ c.run_alone-answer.result c.run_alone-answer.ensures.outcome)

pub returns-then-is_alone-clause-serves : goal.returns-then-is_alone-clause-serves
returns-then-is_alone-clause-serves c =
    one_event_serves c.args.self.now c.run_alone-answer.new.self Step _ c.run_alone-answer.ensures.start c.keep_consistent.ensures
    c.keep_consistent-then-is_alone.ensures
    (c.keep_drops.ensures Step _ _ (lone_step_answered _ _ _ c.run_alone-answer.result c.run_alone-answer.ensures.outcome))

pub returns-clause-drops : goal.returns-clause-drops
returns-clause-drops c = c.keep_drops.ensures Step _ _ (paired_step_answered _ _ _ c.run_paired-answer.result c.run_paired-answer.ensures.outcome
    (ap (λ (v : Pair). v.protocol.lines) c.run_paired-answer.ensures.made.1))

pub returns-clause-serves : goal.returns-clause-serves
returns-clause-serves c =
    one_event_serves c.args.self.now c.run_paired-answer.new.self Step _
    (ap (λ (v : Pair). v.start) c.run_paired-answer.ensures.made.1) c.keep_consistent.ensures c.keep_consistent-2.ensures
    (c.keep_drops.ensures Step _ _ (paired_step_answered _ _ _ c.run_paired-answer.result c.run_paired-answer.ensures.outcome
    (ap (λ (v : Pair). v.protocol.lines) c.run_paired-answer.ensures.made.1)))

pub returns-then-is_alone-clause-start : goal.returns-then-is_alone-clause-start
returns-then-is_alone-clause-start c = c.run_alone-answer.ensures.start

pub returns-then-is_alone-clause-backup : goal.returns-then-is_alone-clause-backup
returns-then-is_alone-clause-backup c = c.run_alone-answer.ensures.backup

pub returns-then-is_alone-clause-refused : goal.returns-then-is_alone-clause-refused
returns-then-is_alone-clause-refused c = c.run_alone-answer.ensures.none_made refl

pub returns-then-is_alone-clause-consistent : goal.returns-then-is_alone-clause-consistent
returns-then-is_alone-clause-consistent c = c.keep_consistent-then-is_alone.ensures

pub returns-clause-start : goal.returns-clause-start
returns-clause-start c = ap (λ (v : Pair). v.start) c.run_paired-answer.ensures.made.1

pub returns-clause-backup : goal.returns-clause-backup
returns-clause-backup c = let made = c.run_paired-answer.ensures.made.1 in (ap (λ (v : Pair). v.nodes.image) made, ap (λ (v : Pair). v.nodes.sealed) made)

pub returns-clause-consistent : goal.returns-clause-consistent
returns-clause-consistent c = c.keep_consistent-2.ensures
