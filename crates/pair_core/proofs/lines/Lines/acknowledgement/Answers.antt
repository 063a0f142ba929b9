use Rattle.std.proofs.Common.{rules, arith}
use Rattle.pair_core.specs.laws.Lines.{packet-at}
use Rattle.pair_core.proofs.lines.Lines.acknowledgement.Goals as goal

pub returns : goal.returns
returns c = search (arith, rules, packet-at)
