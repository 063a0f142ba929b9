use Rattle.std.proofs.Common.{rules, arith, refl}
use Rattle.pair_record.specs.EpochActs.{seal_epoch_done}
use Rattle.pair_history.specs.Epochs.{guest_epoch, behind}
use Rattle.pair_record.specs.internal.RecordFields.{record_state}
use Rattle.pair_record.specs.laws.{Numbers.{sealed_numbers, same_numbers}, Tables.has_room_for, Records.{rising, sealed_record}}
use Rattle.pair_record.specs.laws.Records.{same_record}
use Rattle.pair_record.proofs.record.PairRecord.seal_epoch.Goals as goal

pub seal_epoch-requires-clause-fits : goal.seal_epoch-requires-clause-fits
seal_epoch-requires-clause-fits c = search (arith, rules, has_room_for)

pub hold-requires-clause-above : goal.hold-requires-clause-above
hold-requires-clause-above c = rising (record_state c.self.inside).protocol c.self.invariant.is

pub invariant_of-self-2 : goal.invariant_of-self-2
invariant_of-self-2 c =
    let r = (record_state c.self.inside).protocol in
    let n = c.args.arrivals in
    let steps = c.args.steps in
    let fs = c.args.frames.now in
    let free = rw (← c.self.view_is) at c.requires.free in
    let two = rw (← c.self.view_is) at c.requires.pair in
    let epoch = guest_epoch n steps r.journal.running in
    let rest = behind n r.journal.running in
    record {
      is = same_record (seal_epoch_done n steps fs r).1 _ (search (arith, rules)) (sealed_record r c.self.invariant.is epoch rest fs two free);
      numbers =
          same_numbers (seal_epoch_done n steps fs r).1 _ c.self.inside.ports _ (search (arith, rules)) refl
          (sealed_numbers r c.self.inside.ports c.self.invariant.numbers epoch rest fs c.requires.few free);
    }
