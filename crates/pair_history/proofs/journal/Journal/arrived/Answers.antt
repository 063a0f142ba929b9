use Rattle.std.proofs.Common.{rules}
use Rattle.pair_history.proofs.ArrivedLaws.{arrived-count}
use Rattle.pair_history.proofs.journal.Journal.arrived.Goals as goal

pub returns : goal.returns
returns c = search (rules, arrived-count)
