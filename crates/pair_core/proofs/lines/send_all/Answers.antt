use Rattle.std.proofs.Common.{rules, arith}
use Rattle.pair_core.specs.laws.Lines.{packets_from-more}
use Rattle.pair_core.proofs.lines.send_all.Goals as goal

pub loop-number-preserved : goal.loop-number-preserved
loop-number-preserved c = search (arith, rules, packets_from-more)
