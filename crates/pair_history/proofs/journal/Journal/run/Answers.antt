use Rattle.std.proofs.Common.{rules, arith}
use Rattle.pair_history.proofs.JournalLaws.{epoch-steps}
use Rattle.pair_history.proofs.journal.Journal.run.Goals as goal

pub returns : goal.returns
returns c = search (arith, rules, epoch-steps)
