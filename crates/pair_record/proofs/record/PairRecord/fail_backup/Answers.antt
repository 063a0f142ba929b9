use Rattle.std.proofs.{Common.{rules, ◌≡◌, ◌∙◌, ◌+◌, [], ◌++◌, length, ap, arith}, lemmas.List.length-append}
use Rattle.output_gate.specs.{Epochs.{frames_of, frames_to}, Gate.GateState}
use Rattle.frame_ports.specs.Lands.{put_count}
use Rattle.pair_history.specs.Landings.{landings}
use Rattle.pair_history.specs.Journal.{all_committed, with_history}
use Rattle.frame_ports.specs.Addresses.{targets_of}
use Rattle.pair_record.specs.Protocol.{all_held, fail_backup_done}
use Rattle.pair_record.specs.{Record.{first_held, ports_after_all}, internal.RecordFields.record_state}
use Rattle.pair_record.proofs.AloneLaws.{all_are}
use Rattle.pair_record.specs.laws.Records.{failure_record}
use Rattle.pair_record.specs.laws.Numbers.{failure_numbers, first_same, let_go_count, let_go_ports, none_came, same_numbers}
use Rattle.pair_record.specs.laws.{Tables.{passed, has_room_for}, Records.{rising, same_record}}
use Rattle.pair_record.proofs.record.PairRecord.fail_backup.Goals.{After-held, After-none_pending-self-inside}
use Rattle.failover.specs.declared.mode.Mode.TheVariants as modes
use Rattle.pair_record.specs.declared.event.Reply.TheVariants as replies
use Rattle.pair_record.proofs.record.PairRecord.fail_backup.Goals as goal

-- what lands: the held frames, and then the outbox
held_is : (c : After-held) → c.held.result.now ≡ frames_of c.self.inside.gate.epochs ++ c.args.outbox.now
held_is c =
    c.held.ensures.held
    ∙ ap (λ (g : GateState). frames_to c.self.inside.window.to_cut g.epochs) c.hold.ensures
    ∙ all_are (record_state c.self.inside).protocol c.self.invariant.is c.args.outbox.now

count_is : (c : After-held) → length (targets_of (length c.self.inside.ports.boxes) c.held.result.now) ≡ c.count_all-count.result
count_is c = search (arith, rules, held_is)

journal_is : (c : After-none_pending-self-inside)
    → c.held.result.now ≡ frames_of c.self.inside.gate.epochs ++ c.args.outbox.now
    → c.land-landed.new.self.journal
    ≡ with_history (all_committed c.self.inside.journal.journal)
    (landings c.self.inside.ports.boxes (all_held c.self.inside.ports.boxes c.args.outbox.now (record_state c.self.inside).protocol))
journal_is c held = search (arith, rules)

-- the record after it
record_is : (c : After-none_pending-self-inside)
    → c.held.result.now ≡ frames_of c.self.inside.gate.epochs ++ c.args.outbox.now
    → record (record_state c.self.inside).protocol {
      mode = modes.Alone;
      journal = c.land-landed.new.self.journal;
      window = c.none_pending-self-inside.result;
      pending = c.discard.new.self.epochs;
      next_frame = c.discard.new.self.next;
    } ≡ (fail_backup_done c.self.inside.ports.boxes c.args.outbox.now (record_state c.self.inside).protocol).1
record_is c held =
    let r = (record_state c.self.inside).protocol in
    let journal = journal_is c held in
    let gate : c.discard.new.self ≡ record { next = r.next_frame + length c.args.outbox.now; epochs = [] } =
    c.discard.ensures ∙ ap (λ (g : GateState). record g { epochs = [] }) c.hold.ensures in
    λ i. record r {
      mode = modes.Alone;
      journal = journal i;
      window = c.none_pending-self-inside.ensures i;
      pending = (gate i).epochs;
      next_frame = (gate i).next;
    }

first_is : (c : After-none_pending-self-inside) → c.first.result ≡ first_held (record_state c.self.inside).protocol
first_is c =
    let s = record_state c.self.inside in
    c.first.ensures.first
    ∙ first_same s.protocol s.ports c.self.invariant.numbers c.self.inside.window.to_cut c.args.outbox.now c.hold.new.self c.hold.ensures

-- the ports, and how many frames were put into boxes
ports_are : (c : After-none_pending-self-inside) → c.held.result.now ≡ frames_of c.self.inside.gate.epochs ++ c.args.outbox.now
    → c.land-landed.new.ports
    ≡ ports_after_all c.self.inside.ports c.args.outbox.now (record_state c.self.inside).protocol
ports_are c held =
    let s = record_state c.self.inside in
    c.land-landed.ensures.ports
    ∙ let_go_ports s.protocol s.ports c.self.invariant.numbers c.first.result (first_is c) c.held.result.now _ held

put_is : (c : After-none_pending-self-inside) → c.held.result.now ≡ frames_of c.self.inside.gate.epochs ++ c.args.outbox.now
    → c.land-landed.result.landed
    ≡ put_count c.self.inside.ports.boxes (all_held c.self.inside.ports.boxes c.args.outbox.now (record_state c.self.inside).protocol)
put_is c held =
    let s = record_state c.self.inside in
    c.land-landed.ensures.landed
    ∙ let_go_count s.protocol s.ports c.self.invariant.numbers c.first.result (first_is c) c.held.result.now _ held

pub hold-requires-clause-above : goal.hold-requires-clause-above
hold-requires-clause-above c = rising (record_state c.self.inside).protocol c.self.invariant.is

pub land-landed-requires-clause-room : goal.land-landed-requires-clause-room
land-landed-requires-clause-room c = search (arith, rules, After-held, count_is)

pub land-landed-requires-clause-fits : goal.land-landed-requires-clause-fits
land-landed-requires-clause-fits c = search (arith, rules, After-held, count_is, has_room_for, length-append, passed)

pub land-landed-requires-clause-new : goal.land-landed-requires-clause-new
land-landed-requires-clause-new c =
    let s = record_state c.self.inside in
    none_came s.protocol s.ports c.self.invariant.numbers c.first.result (c.first.ensures.first
    ∙ first_same s.protocol s.ports c.self.invariant.numbers c.self.inside.window.to_cut c.args.outbox.now c.hold.new.self c.hold.ensures)

pub invariant_of-self-2 : goal.invariant_of-self-2
invariant_of-self-2 c =
    let s = record_state c.self.inside in
    let r = s.protocol in
    let fs = c.args.outbox.now in
    let at = goal.at.invariant_of-self-2 c in
    let two = rw (← c.self.view_is) at c.requires.pair in
    let sealed = rw (← c.self.view_is) at c.requires.sealed in
    let left = c.self.invariant.numbers.left_in_pair two sealed in
    let few = c.requires.few in
    let after = record_is at.After-none_pending-self-inside (held_is at.After-held) in
    record {
      is = same_record (fail_backup_done s.ports.boxes fs r).1 _ after (failure_record r c.self.invariant.is r.journal.running [] s.ports.boxes fs);
      numbers =
          same_numbers (fail_backup_done s.ports.boxes fs r).1 _ (ports_after_all s.ports fs r) _ after
          (ports_are at.After-none_pending-self-inside (held_is at.After-held))
          (failure_numbers r s.ports c.self.invariant.numbers r.journal.running [] fs (omega arith));
    }

pub returns-clause-ok : goal.returns-clause-ok
returns-clause-ok c =
    let at = goal.at.returns-clause-ok c in
    let after = record_is at.After-none_pending-self-inside (held_is at.After-held) in
    let put = put_is at.After-none_pending-self-inside (held_is at.After-held) in
    rw (← c.self.view_is) (λ i. (replies.Alone c.self.inside.generation (put i), after i))

pub returns-clause-ports : goal.returns-clause-ports
returns-clause-ports c = let at = goal.at.returns-clause-ports c in rw (← c.self.view_is) (ports_are at.After-none_pending-self-inside (held_is at.After-held))
