use Rattle.std.proofs.Common.{rules, arith, ◌≡◌, ◌<◌, ◌∙◌, ap, List, length}
use Rattle.frame_ports.specs.Addresses.{targets_of}
use Rattle.pair_history.specs.Entries.{Frame}
use Rattle.output_gate.specs.Epochs.{frames_to}
use Rattle.pair_record.specs.{Protocol.ack_done, Record.ports_after_ack, internal.RecordFields.record_state}
use Rattle.pair_record.specs.laws.Numbers.{ack_numbers, let_go_count, let_go_ports, none_came, same_numbers}
use Rattle.pair_record.specs.laws.{Tables.{passed, has_room_for}, Records.{ack_record, same_record}}
use Rattle.pair_record.proofs.record.PairRecord.acknowledge.Goals.{After-land-landed}
use Rattle.pair_record.proofs.record.PairRecord.acknowledge.Goals as goal

pub land-landed-requires-clause-room : goal.land-landed-requires-clause-room
land-landed-requires-clause-room c =
    let n = length c.self.inside.ports.boxes in
    let held = ap (λ (fs : List Frame). length (targets_of n fs)) c.held.ensures.held in
    let count = rw (← c.self.view_is) at c.leaving-count.ensures in
    let room = c.in_ok-reserve.ensures.room in
    omega arith

pub land-landed-requires-clause-fits : goal.land-landed-requires-clause-fits
land-landed-requires-clause-fits c = search (arith, rules, has_room_for, passed)

pub land-landed-requires-clause-new : goal.land-landed-requires-clause-new
land-landed-requires-clause-new c =
    let s = record_state c.self.inside in
    none_came s.protocol s.ports c.self.invariant.numbers c.first.result c.first.ensures.first

ports_are : (c : After-land-landed) → c.land-landed.new.ports
    ≡ ports_after_ack c.self.inside.ports (record_state c.self.inside).protocol c.args.packet.number
ports_are c =
    let s = record_state c.self.inside in
    c.land-landed.ensures.ports
    ∙ let_go_ports s.protocol s.ports c.self.invariant.numbers c.first.result c.first.ensures.first c.held.result.now
    (frames_to c.args.packet.number s.protocol.pending) c.held.ensures.held

pub invariant_of-self-2 : goal.invariant_of-self-2
invariant_of-self-2 c =
    let s = record_state c.self.inside in
    let n = c.args.packet.number in
    let below : n < s.protocol.window.to_commit = search (arith, rules) in
    record {
      is = same_record (ack_done s.ports.boxes s.protocol n).1 _ (search (arith, rules))
          (ack_record s.protocol c.self.invariant.is s.ports.boxes n below);
      numbers =
          same_numbers (ack_done s.ports.boxes s.protocol n).1 _ (ports_after_ack s.ports s.protocol n) _ (search (arith, rules))
          (ports_are (goal.at.invariant_of-self-2 c).After-land-landed)
          (ack_numbers s.protocol s.ports c.self.invariant.numbers n);
    }

pub returns-clause-ports : goal.returns-clause-ports
returns-clause-ports c = rw (← c.self.view_is) (ports_are (goal.at.returns-clause-ports c).After-land-landed)

pub returns-clause-done : goal.returns-clause-done
returns-clause-done c =
    let s = record_state c.self.inside in
    let put = c.land-landed.ensures.landed
    ∙ let_go_count s.protocol s.ports c.self.invariant.numbers c.first.result c.first.ensures.first c.held.result.now
    (frames_to c.args.packet.number s.protocol.pending) c.held.ensures.held in
    search (arith, rules, put)
