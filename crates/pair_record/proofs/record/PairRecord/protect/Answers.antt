use Rattle.std.proofs.Common.{rules, arith, ◌≡◌, []}
use Rattle.frame_ports.specs.Numbers.{renumbered}
use Rattle.pair_record.specs.{Protocol.protect_done, internal.RecordFields.record_state}
use Rattle.pair_record.specs.laws.{Numbers.{protect_numbers, same_numbers}, Records.{protect_record, same_record}}
use Rattle.pair_record.proofs.record.PairRecord.protect.Goals as goal

pub invariant_of-self-2 : goal.invariant_of-self-2
invariant_of-self-2 c =
    let r = (record_state c.self.inside).protocol in
    let alone = rw (← c.self.view_is) at c.requires.alone in
    let none : r.pending ≡ [] = (c.self.invariant.is.alone alone).1 in
    record {
      is = same_record (protect_done r).1 _ (search (arith, rules, none)) (protect_record r c.self.invariant.is alone);
      numbers =
          same_numbers (protect_done r).1 _ (renumbered c.self.inside.ports) _ (search (arith, rules, none)) (search (arith, rules))
          (protect_numbers r c.self.inside.ports);
    }
