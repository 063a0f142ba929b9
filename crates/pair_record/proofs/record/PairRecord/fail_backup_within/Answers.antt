use Rattle.std.proofs.{Common.{rules, ◌≡◌, ◌∙◌, ◌+◌, [], ◌++◌, length, sym, arith}, lemmas.List.{append-nil, length-append}}
use Rattle.output_gate.specs.{Epochs.frames_of}
use Rattle.frame_ports.specs.Lands.{put_count}
use Rattle.pair_record.specs.EpochActs.{fail_within_done}
use Rattle.pair_record.specs.Protocol.{all_held, landed_after}
use Rattle.pair_record.specs.{Record.{ports_after_all}, internal.RecordFields.record_state}
use Rattle.pair_record.proofs.AloneLaws.{held_are}
use Rattle.pair_record.specs.laws.Records.{failure_record}
use Rattle.pair_record.specs.laws.Numbers.{failure_numbers, let_go_count, let_go_ports, none_came, same_numbers}
use Rattle.pair_record.specs.laws.{Tables.{passed, has_room_for}, Records.same_record}
use Rattle.pair_record.proofs.record.PairRecord.fail_backup_within.Goals.{After-held, After-none_pending-self-inside}
use Rattle.frame_ports.specs.Addresses.{targets_of}
use Rattle.failover.specs.declared.mode.Mode.TheVariants as modes
use Rattle.pair_record.specs.declared.event.Reply.TheVariants as replies
use Rattle.pair_record.proofs.record.PairRecord.fail_backup_within.Goals as goal

-- what lands: the held frames
held_is : (c : After-held) → c.held.result.now ≡ frames_of c.self.inside.gate.epochs ++ []
held_is c =
    c.held.ensures.held ∙ held_are (record_state c.self.inside).protocol c.self.invariant.is
    ∙ sym (append-nil (frames_of c.self.inside.gate.epochs))

count_is : (c : After-held) → length (targets_of (length c.self.inside.ports.boxes) c.held.result.now) ≡ c.count_all-count.result
count_is c = search (arith, rules, held_is)

journal_is : (c : After-none_pending-self-inside)
    → c.held.result.now ≡ frames_of c.self.inside.gate.epochs ++ []
    → c.land-landed.new.self.journal
    ≡ landed_after [] c.self.inside.journal.journal.running c.self.inside.ports.boxes
    (all_held c.self.inside.ports.boxes [] (record_state c.self.inside).protocol) c.self.inside.journal.journal
journal_is c held = search (arith, rules)

-- the record after it
record_is : (c : After-none_pending-self-inside)
    → c.held.result.now ≡ frames_of c.self.inside.gate.epochs ++ []
    → record (record_state c.self.inside).protocol {
      mode = modes.Alone;
      journal = c.land-landed.new.self.journal;
      window = c.none_pending-self-inside.result;
      pending = c.discard.new.self.epochs;
      next_frame = c.discard.new.self.next;
    } ≡ (fail_within_done c.self.inside.ports.boxes (record_state c.self.inside).protocol).1
record_is c held =
    let r = (record_state c.self.inside).protocol in
    let journal = journal_is c held in
    let same : r.next_frame ≡ r.next_frame + 0 = omega arith in
    let gate : c.discard.new.self ≡ record { next = r.next_frame + 0; epochs = [] } =
    c.discard.ensures ∙ (λ i. record { next = same i; epochs = [] }) in
    λ i. record r {
      mode = modes.Alone;
      journal = journal i;
      window = c.none_pending-self-inside.ensures i;
      pending = (gate i).epochs;
      next_frame = (gate i).next;
    }

-- the ports, and how many frames were put into boxes
ports_are : (c : After-none_pending-self-inside) → c.held.result.now ≡ frames_of c.self.inside.gate.epochs ++ []
    → c.land-landed.new.ports ≡ ports_after_all c.self.inside.ports [] (record_state c.self.inside).protocol
ports_are c held =
    let s = record_state c.self.inside in
    c.land-landed.ensures.ports
    ∙ let_go_ports s.protocol s.ports c.self.invariant.numbers c.first.result c.first.ensures.first c.held.result.now _ held

put_is : (c : After-none_pending-self-inside) → c.held.result.now ≡ frames_of c.self.inside.gate.epochs ++ []
    → c.land-landed.result.landed
    ≡ put_count c.self.inside.ports.boxes (all_held c.self.inside.ports.boxes [] (record_state c.self.inside).protocol)
put_is c held =
    let s = record_state c.self.inside in
    c.land-landed.ensures.landed
    ∙ let_go_count s.protocol s.ports c.self.invariant.numbers c.first.result c.first.ensures.first c.held.result.now _ held

pub land-landed-requires-clause-room : goal.land-landed-requires-clause-room
land-landed-requires-clause-room c = search (arith, rules, After-held, count_is)

pub land-landed-requires-clause-fits : goal.land-landed-requires-clause-fits
land-landed-requires-clause-fits c = search (arith, rules, After-held, append-nil, count_is, has_room_for, length-append, passed)

pub land-landed-requires-clause-new : goal.land-landed-requires-clause-new
land-landed-requires-clause-new c =
    let s = record_state c.self.inside in
    none_came s.protocol s.ports c.self.invariant.numbers c.first.result c.first.ensures.first

pub invariant_of-self-2 : goal.invariant_of-self-2
invariant_of-self-2 c =
    let s = record_state c.self.inside in
    let r = s.protocol in
    let at = goal.at.invariant_of-self-2 c in
    let after = record_is at.After-none_pending-self-inside (held_is at.After-held) in
    record {
      is = same_record (fail_within_done s.ports.boxes r).1 _ after (failure_record r c.self.invariant.is [] r.journal.running s.ports.boxes []);
      numbers =
          same_numbers (fail_within_done s.ports.boxes r).1 _ (ports_after_all s.ports [] r) _ after
          (ports_are at.After-none_pending-self-inside (held_is at.After-held))
          (let left = c.self.invariant.numbers.left in
          failure_numbers r s.ports c.self.invariant.numbers [] r.journal.running [] (omega arith));
    }

pub returns-clause-ok : goal.returns-clause-ok
returns-clause-ok c =
    let at = goal.at.returns-clause-ok c in
    let after = record_is at.After-none_pending-self-inside (held_is at.After-held) in
    let put = put_is at.After-none_pending-self-inside (held_is at.After-held) in
    rw (← c.self.view_is) (λ i. (replies.Alone c.self.inside.generation (put i), after i))

pub returns-clause-ports : goal.returns-clause-ports
returns-clause-ports c = let at = goal.at.returns-clause-ports c in rw (← c.self.view_is) (ports_are at.After-none_pending-self-inside (held_is at.After-held))
