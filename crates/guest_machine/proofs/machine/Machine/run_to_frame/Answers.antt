use Rattle.guest_rules.specs.laws.Runs.{empty_before, quiet_before}
use Rattle.guest_machine.proofs.machine.Machine.run_to_frame.Goals as goal

pub returns-clause-quiet : goal.returns-clause-quiet
returns-clause-quiet c = quiet_before c.run_while.result c.args.self.now.guest c.args.self.now.outbox c.run_while.ensures.before

pub returns-clause-empty : goal.returns-clause-empty
returns-clause-empty c = empty_before c.run_while.result c.args.self.now.guest c.args.self.now.outbox c.run_while.ensures.before
