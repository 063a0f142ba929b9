use Rattle.std.proofs.Common.{rules, arith, refl}
use Rattle.pair_record.specs.{Protocol.commit_done, internal.RecordFields.record_state}
use Rattle.pair_record.specs.laws.{Numbers.{commit_numbers, same_numbers}, Records.{commit_record, same_record}}
use Rattle.pair_record.proofs.record.PairRecord.commit.Goals as goal

pub invariant_of-self-2 : goal.invariant_of-self-2
invariant_of-self-2 c =
    let r = (record_state c.self.inside).protocol in
    let more = rw (← c.self.view_is) at c.requires in
    record {
      is = same_record (commit_done r).1 _ (search (arith, rules)) (commit_record r c.self.invariant.is more);
      numbers =
          same_numbers (commit_done r).1 _ c.self.inside.ports _ (search (arith, rules)) refl
          (commit_numbers r c.self.inside.ports c.self.invariant.numbers);
    }
