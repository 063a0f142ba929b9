use Rattle.std.proofs.Common.{subst, sym}
use Rattle.rv64_core.specs.Meaning.{GoesOnAligned}
use Rattle.rv64_core.specs.laws.Aligned.{plan_of_aligned}
use Rattle.rv64_core.proofs.planning.plan.Goals as goal

pub returns-clause-aligned : goal.returns-clause-aligned
returns-clause-aligned c h = subst GoesOnAligned (sym c.by_instruction.ensures) (plan_of_aligned c.args.regs.now c.args.pc c.args.instr h)
