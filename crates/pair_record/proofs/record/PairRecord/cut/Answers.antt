use Rattle.std.proofs.Common.{rules, arith, refl, []}
use Rattle.pair_record.specs.{Protocol.cut_done, internal.RecordFields.record_state}
use Rattle.pair_record.specs.laws.{Numbers.{sealed_numbers, same_numbers}, Records.{rising, cut_record, same_record}}
use Rattle.pair_record.proofs.record.PairRecord.cut.Goals as goal

pub hold-requires-clause-above : goal.hold-requires-clause-above
hold-requires-clause-above c = rising (record_state c.self.inside).protocol c.self.invariant.is

pub invariant_of-self-2 : goal.invariant_of-self-2
invariant_of-self-2 c =
    let r = (record_state c.self.inside).protocol in
    let free = rw (← c.self.view_is) at c.requires.free in
    let two = rw (← c.self.view_is) at c.requires.pair in
    let fs = c.args.frames.now in
    record {
      is = same_record (cut_done fs r).1 _ (search (arith, rules)) (cut_record r c.self.invariant.is fs two free);
      numbers =
          same_numbers (cut_done fs r).1 _ c.self.inside.ports _ (search (arith, rules)) refl
          (sealed_numbers r c.self.inside.ports c.self.invariant.numbers r.journal.running [] fs c.requires.few free);
    }
