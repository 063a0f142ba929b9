use Rattle.std.proofs.Common.{rules, arith}
use Rattle.pair_core.specs.laws.Lines.{on_ok, packets_of-sent, keeps_all-after}
use Rattle.pair_core.proofs.lines.Lines.send.Goals as goal

pub invariant_of-self : goal.invariant_of-self
invariant_of-self c = search (arith, rules, keeps_all-after)

pub returns-clause-ok : goal.returns-clause-ok
returns-clause-ok c = search (arith, rules, on_ok, packets_of-sent)
