use Rattle.std.proofs.Common.{rules, arith}
use Rattle.pair_core.specs.laws.Nodes.{few_sent}
use Rattle.pair_core.proofs.nodes.Nodes.run_to_frame.Goals as goal

pub returns-clause-few : goal.returns-clause-few
returns-clause-few c = search (arith, rules, few_sent)
