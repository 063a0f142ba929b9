use Rattle.std.proofs.Common.{rules, arith, ◌≡◌, []}
use Rattle.pair_record.specs.{Protocol.begin_done, internal.RecordFields.record_state}
use Rattle.pair_record.specs.laws.{Numbers.{begin_numbers, same_numbers}, Records.{begin_record, same_record}}
use Rattle.pair_record.proofs.record.PairRecord.begin_protect.Goals as goal

pub invariant_of-self : goal.invariant_of-self
invariant_of-self c =
    let r = (record_state c.self.inside).protocol in
    let alone = rw (← c.self.view_is) at c.requires.alone in
    let none : r.pending ≡ [] = (c.self.invariant.is.alone alone).1 in
    record {
      is = same_record (begin_done r).1 _ (search (arith, rules, none)) (begin_record r c.self.invariant.is alone);
      numbers =
          same_numbers (begin_done r).1 _ c.self.inside.ports _ (search (arith, rules, none)) (search (arith, rules))
          (begin_numbers r c.self.inside.ports c.self.invariant.numbers none);
    }

pub returns-clause-protocol : goal.returns-clause-protocol
returns-clause-protocol c =
    let r = (record_state c.self.inside).protocol in
    let alone = rw (← c.self.view_is) at c.requires.alone in
    let none : r.pending ≡ [] = (c.self.invariant.is.alone alone).1 in
    search (arith, rules, none)
