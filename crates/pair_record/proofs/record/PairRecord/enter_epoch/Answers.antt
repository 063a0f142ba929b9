use Rattle.std.proofs.Common.{rules, arith, ◌≡◌, ◌∙◌, ◌+◌, ◌-◌, length, ap, sym}
use Rattle.frame_ports.specs.Addresses.{targets_of}
use Rattle.pair_history.specs.Epochs.{behind, guest_epoch}
use Rattle.pair_history.specs.Journal.{Journal, all_entries}
use Rattle.pair_record.specs.Protocol.{landed_after}
use Rattle.pair_record.specs.Record.{ports_landed}
use Rattle.pair_record.specs.internal.RecordFields.{record_state}
use Rattle.pair_record.specs.laws.Numbers.{lone_came, lone_numbers, lone_ports, same_numbers}
use Rattle.pair_history.specs.laws.Epochs.{all-entered}
use Rattle.pair_record.specs.laws.{Records.{entered_record, same_record}, Tables.{passed, has_room_for}}
use Rattle.pair_record.proofs.record.PairRecord.enter_epoch.Goals as goal

pub land-landed-requires-clause-fits : goal.land-landed-requires-clause-fits
land-landed-requires-clause-fits c =
    let s = record_state c.self.inside in
    let free = rw (← c.self.view_is) at c.requires.free in
    let room = has_room_for s.protocol _ (passed _ _ _ free).0 in
    let entered = ap (λ (j : Journal). length (all_entries j)) c.in_ok-enter_epoch.ensures.ok
    ∙ all-entered c.args.arrivals c.args.steps s.protocol.journal in
    omega arith

pub land-landed-requires-clause-new : goal.land-landed-requires-clause-new
land-landed-requires-clause-new c =
    let s = record_state c.self.inside in
    let lone = rw (← c.self.view_is) at c.requires.lone in
    lone_came s.protocol s.ports c.self.invariant.numbers c.next-first.result c.args.frames.now c.next-first.ensures.next lone.1

pub invariant_of-self-2 : goal.invariant_of-self-2
invariant_of-self-2 c =
    let s = record_state c.self.inside in
    let r = s.protocol in
    let n = c.args.arrivals in
    let steps = c.args.steps in
    let fs = c.args.frames.now in
    let ps = targets_of (length s.ports.boxes) fs in
    let h = c.self.invariant in
    let lone = rw (← c.self.view_is) at c.requires.lone in
    let free = rw (← c.self.view_is) at c.requires.free in
    let numbers = (passed _ _ _ (passed _ _ _ free).1).0 in
    let epoch = guest_epoch n steps r.journal.running in
    let rest = behind n r.journal.running in
    let j = landed_after epoch rest s.ports.boxes ps r.journal in
    let journal : c.land-landed.new.self.journal ≡ j = search (arith, rules) in
    let first = c.next-first.ensures in
    let next : c.next-first.result - 1 + length fs + 1 ≡ r.next_frame + length fs = omega (arith, first.next, first.bound) in
    let gate : c.begin.new.self ≡ record { next = r.next_frame + length fs; epochs = r.pending } =
    c.begin.ensures ∙ (λ i. record { next = next i; epochs = sym lone.1 i }) in
    let after : record r {
      journal = c.land-landed.new.self.journal;
      pending = c.begin.new.self.epochs;
      next_frame = c.begin.new.self.next;
    } ≡ record r { journal = j; next_frame = r.next_frame + length fs } =
    λ i. record r { journal = journal i; pending = (gate i).epochs; next_frame = (gate i).next } in
    let ports : c.land-landed.new.ports ≡ ports_landed s.ports r.next_frame fs =
    c.land-landed.ensures.ports ∙ lone_ports r s.ports h.numbers c.next-first.result fs first.next lone.1 in
    record {
      is = same_record (record r { journal = j; next_frame = r.next_frame + length fs }) _ after
          (entered_record r h.is lone epoch rest s.ports.boxes ps (r.next_frame + length fs));
      numbers =
          same_numbers (record r { journal = j; next_frame = r.next_frame + length fs }) _
          (ports_landed s.ports r.next_frame fs) _ after ports
          (lone_numbers r s.ports h.numbers j fs c.requires.few numbers lone.1);
    }

pub returns-clause-ports : goal.returns-clause-ports
returns-clause-ports c =
    let s = record_state c.self.inside in
    let lone = rw (← c.self.view_is) at c.requires.lone in
    rw (← c.self.view_is) (c.land-landed.ensures.ports
    ∙ lone_ports s.protocol s.ports c.self.invariant.numbers c.next-first.result c.args.frames.now c.next-first.ensures.next lone.1)
