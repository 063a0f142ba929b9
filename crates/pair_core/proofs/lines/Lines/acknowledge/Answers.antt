use Rattle.std.proofs.Common.{rules, arith, [], ◌∷◌}
use Rattle.pair_core.specs.Lines.{packet}
use Rattle.pair_core.specs.laws.Lines.{packets_of-sent, keeps_all-sent}
use Rattle.pair_core.proofs.lines.Lines.acknowledge.Goals as goal

pub invariant_of-self : goal.invariant_of-self
invariant_of-self c =
    let p = packet c.args.generation c.args.number in
    let sent = rw c.unwrap.ensures at c.send.ensures.packets in
    record {
      forward = c.self.invariant.forward;
      back = keeps_all-sent c.self.inside.back.packets c.send.new.self.packets (p ∷ []) c.self.invariant.back sent;
    }

pub returns : goal.returns
returns c = search (arith, rules, packets_of-sent)
