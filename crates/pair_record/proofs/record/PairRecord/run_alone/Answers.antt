use Rattle.std.proofs.{Common.{rules, ◌≡◌, ◌∙◌, ◌+◌, ◌-◌, ◌++◌, length, replicate, sym, ap, arith}, lemmas.List.{length-append, length-replicate}}
use Rattle.frame_ports.specs.Addresses.{targets_of}
use Rattle.pair_history.specs.{Entries.Ran, Landings.landings}
use Rattle.pair_history.specs.Journal.{Journal, all_entries, with_history}
use Rattle.pair_history.specs.laws.Joined.{length-all}
use Rattle.pair_record.specs.Record.{ports_landed}
use Rattle.pair_record.specs.internal.RecordFields.{record_state}
use Rattle.pair_record.proofs.{AloneLaws.few_targets, LiveLaws.goes_on_twice}
use Rattle.pair_record.specs.laws.Numbers.{lone_came, lone_numbers, lone_ports, same_numbers}
use Rattle.pair_record.specs.laws.Records.{history_record, same_record}
use Rattle.pair_record.proofs.record.PairRecord.run_alone.Goals as goal

pub land-landed-requires-clause-room : goal.land-landed-requires-clause-room
land-landed-requires-clause-room c = search (arith, rules, few_targets)

pub land-landed-requires-clause-fits : goal.land-landed-requires-clause-fits
land-landed-requires-clause-fits c =
    let s = record_state c.self.inside in
    let fits = rw (← c.self.view_is) at c.requires.fits in
    let ran = ap (λ (j : Journal). length (all_entries j)) c.run_alone.ensures.journal
    ∙ length-all (with_history s.protocol.journal (replicate c.args.steps Ran)) in
    omega (
      arith,
      fits,
      ran,
      length-all s.protocol.journal,
      length-append s.protocol.journal.history (replicate c.args.steps Ran),
      length-replicate c.args.steps Ran,
      few_targets (length s.ports.boxes) c.args.sent.now c.requires.few,
    )

pub land-landed-requires-clause-new : goal.land-landed-requires-clause-new
land-landed-requires-clause-new c =
    let s = record_state c.self.inside in
    let alone = rw (← c.self.view_is) at c.requires.alone in
    lone_came s.protocol s.ports c.self.invariant.numbers c.next-first.result c.args.sent.now c.next-first.ensures.next
    (c.self.invariant.is.alone alone).1

pub invariant_of-self : goal.invariant_of-self
invariant_of-self c =
    let s = record_state c.self.inside in
    let r = s.protocol in
    let n = length s.ports.boxes in
    let fs = c.args.sent.now in
    let h = c.self.invariant in
    let alone = rw (← c.self.view_is) at c.requires.alone in
    let free = rw (← c.self.view_is) at c.requires.numbers in
    let none = (h.is.alone alone).1 in
    let es = replicate c.args.steps Ran ++ landings s.ports.boxes (targets_of n fs) in
    let first = c.next-first.ensures in
    let next : c.next-first.result - 1 + length fs + 1 ≡ r.next_frame + length fs = omega (arith, first.next, first.bound) in
    let gate : c.begin.new.self ≡ record { next = r.next_frame + length fs; epochs = r.pending } =
    c.begin.ensures ∙ (λ i. record { next = next i; epochs = sym none i }) in
    let journal : c.land-landed.new.self.journal ≡ with_history r.journal es =
    c.land-landed.ensures.journal
    ∙ ap (λ (j : Journal). with_history j (landings s.ports.boxes (targets_of n fs))) c.run_alone.ensures.journal
    ∙ goes_on_twice r.journal (replicate c.args.steps Ran) (landings s.ports.boxes (targets_of n fs)) in
    let after : record r {
      journal = c.land-landed.new.self.journal;
      pending = c.begin.new.self.epochs;
      next_frame = c.begin.new.self.next;
    } ≡ record r { journal = with_history r.journal es; next_frame = r.next_frame + length fs } =
    λ i. record r { journal = journal i; pending = (gate i).epochs; next_frame = (gate i).next } in
    let ports : c.land-landed.new.ports ≡ ports_landed s.ports r.next_frame fs =
    c.land-landed.ensures.ports ∙ lone_ports r s.ports h.numbers c.next-first.result fs first.next none in
    record {
      is = same_record (record r { journal = with_history r.journal es; next_frame = r.next_frame + length fs }) _ after
          (history_record r h.is es (r.next_frame + length fs));
      numbers =
          same_numbers (record r { journal = with_history r.journal es; next_frame = r.next_frame + length fs }) _
          (ports_landed s.ports r.next_frame fs) _ after ports
          (lone_numbers r s.ports h.numbers (with_history r.journal es) fs (omega arith) free none);
    }

pub returns-clause-ports : goal.returns-clause-ports
returns-clause-ports c =
    let s = record_state c.self.inside in
    let r = s.protocol in
    let h = c.self.invariant in
    let alone = rw (← c.self.view_is) at c.requires.alone in
    rw (← c.self.view_is) (c.land-landed.ensures.ports
    ∙ lone_ports r s.ports h.numbers c.next-first.result c.args.sent.now c.next-first.ensures.next (h.is.alone alone).1)
