use Rattle.std.proofs.Common.{rules, arith, ◌≡◌}
use Rattle.pair_core.specs.laws.Serves.{one_event_serves}
use Rattle.pair_core.proofs.{Calls.answers_by_outcome, world.World.apply.Goals.After-answered}
use Rattle.pair_core.specs.Answering.{AnswersEvent}
use Rattle.pair_core.proofs.world.World.apply.Goals as goal

answers : (c : After-answered)
    → AnswersEvent c.args.self.now.start c.args.self.now.protocol c.args.event c.answered.result c.act-outcome.new.self.protocol
answers c = search (arith, rules, answers_by_outcome)

stays : (c : After-answered) → c.act-outcome.new.self.start ≡ c.args.self.now.start
stays c = search (arith, rules)

pub returns-clause-grows : goal.returns-clause-grows
returns-clause-grows c =
    let drops = c.keep_drops.ensures c.args.event c.answered.result c.act-outcome.new.self.protocol
    (answers (goal.at.returns-clause-grows c).After-answered) in
    (drops.entries, drops.grows)

pub returns-clause-drops : goal.returns-clause-drops
returns-clause-drops c = search (arith, rules, After-answered, answers)

pub returns-clause-serves : goal.returns-clause-serves
returns-clause-serves c =
    let drops = c.keep_drops.ensures c.args.event c.answered.result c.act-outcome.new.self.protocol
    (answers (goal.at.returns-clause-serves c).After-answered) in
    one_event_serves c.args.self.now c.act-outcome.new.self c.args.event c.answered.result (stays (goal.at.returns-clause-serves c).After-answered) c.keep_consistent.ensures
    c.keep_consistent-2.ensures drops
