use Rattle.std.proofs.Common.{rules, ◌≡◌, ◌∙◌, ◌+◌, ◌-◌, [], List, length, map, take, ap, sym, arith}
use Rattle.output_gate.specs.Landings.{ports_after}
use Rattle.pair_history.specs.{Entries.{Frame, Entry}, Failures.drops_of_taken_in}
use Rattle.pair_record.specs.FailureActs.{entries_with, first_uncommitted, live_done}
use Rattle.pair_history.specs.Journal.{kept_entries, discarded, with_history}
use Rattle.pair_record.specs.Record.{RecordState}
use Rattle.pair_record.specs.internal.RecordFields.{record_state}
use Rattle.pair_history.specs.LandedEntries.{all_frames, entries_after}
use Rattle.pair_record.specs.Kept.{brought, brought_entries, ports_after_brought}
use Rattle.pair_record.specs.laws.{Owed.{brought_landings, brought_ports}, Records.live_record}
use Rattle.pair_record.proofs.LiveLaws.{goes_on_twice, live_fits}
use Rattle.pair_record.specs.laws.{Numbers.{live_numbers, same_numbers}, Records.same_record}
use Rattle.pair_record.proofs.record.PairRecord.go_live.Goals.{After-count_lists-count, After-begin}
use Rattle.pair_record.proofs.record.PairRecord.go_live.Goals as goal

abbrev lists : (c : After-count_lists-count) → List (List Frame)
lists c = map (λ v. v.items) c.args.kept.now

-- the last committed frame, and what is up to it
last_is : (c : After-count_lists-count) → c.last_committed-sent.result + 1 ≡ first_uncommitted (record_state c.self.inside).protocol
last_is c = c.last_committed-sent.ensures.last ∙ ap (λ (t : RecordState). first_uncommitted t.protocol) (sym c.self.view_is)

cut_is : (c : After-count_lists-count)
    → take (c.last_committed-sent.result + 1 - c.args.first) (all_frames (lists c))
    ≡ brought (record_state c.self.inside).protocol c.args.first (lists c)
cut_is c = ap (λ n. take (n - c.args.first) (all_frames (lists c))) (last_is c)

pub go_live-requires : goal.go_live-requires
go_live-requires c =
    let s = record_state c.self.inside in
    let free = rw (← c.self.view_is) at c.requires.free in
    let at = (goal.at.go_live-requires c).After-count_lists-count in
    let fits = live_fits s.protocol (brought_entries s.protocol s.ports c.args.first (lists at)) free in
    let same = ap (λ (fs : List Frame). length (entries_after s.ports c.args.first fs)) (cut_is at) in
    let most = c.count_lists-count.ensures.most in
    record { fits = omega arith }

-- what it leaves, where this is what was cut off
module _ (c : After-begin) (cut : take (c.last_committed-sent.result + 1 - c.args.first) (all_frames (map (λ v. v.items) c.args.kept.now))
    ≡ brought (record_state c.self.inside).protocol c.args.first (map (λ v. v.items) c.args.kept.now)) where
  journal_is : c.land_kept.new.self.journal
      ≡ with_history (discarded c.self.inside.journal.journal)
      (entries_with
      (brought_entries (record_state c.self.inside).protocol c.self.inside.ports c.args.first (map (λ v. v.items) c.args.kept.now))
      c.self.inside.journal.journal)
  journal_is =
      let j = c.self.inside.journal.journal in
      c.land_kept.ensures.journal
      ∙ (λ i. with_history (c.in_ok-go_live.ensures.ok i) (entries_after c.self.inside.ports c.args.first (cut i)))
      ∙ goes_on_twice (discarded j) (drops_of_taken_in (kept_entries j)) _

  ports_are : c.land_kept.new.ports
      ≡ ports_after_brought c.self.inside.ports (record_state c.self.inside).protocol c.args.first (map (λ v. v.items) c.args.kept.now)
  ports_are = c.land_kept.ensures.ports ∙ ap (ports_after c.self.inside.ports c.args.first) cut

-- the gate begins behind the committed frames
gate_is : (c : After-begin) → c.last_committed-sent.result + 1 ≡ first_uncommitted (record_state c.self.inside).protocol
    → c.begin.new.self ≡ record { next = first_uncommitted (record_state c.self.inside).protocol; epochs = [] }
gate_is c last = c.begin.ensures ∙ (λ i. record { next = last i; epochs = [] })

pub invariant_of-self-2 : goal.invariant_of-self-2
invariant_of-self-2 c =
    let s = record_state c.self.inside in
    let r = s.protocol in
    let at = goal.at.invariant_of-self-2 c in
    let fss = lists at.After-count_lists-count in
    let landed = brought_entries r s.ports c.args.first fss in
    let cut = cut_is at.After-count_lists-count in
    let journal = journal_is at.After-begin cut in
    let gate = gate_is at.After-begin (last_is at.After-count_lists-count) in
    record {
      is = same_record (live_done landed c.args.steps r).1 _ (search (arith, rules, gate, journal))
          (live_record r c.self.invariant.is landed c.args.steps);
      numbers =
          same_numbers (live_done landed c.args.steps r).1 _ (ports_after_brought s.ports r c.args.first fss) _
          (search (arith, rules, gate, journal)) (ports_are at.After-begin cut)
          (live_numbers r s.ports c.self.invariant.numbers landed c.args.steps c.args.first (all_frames fss));
    }

pub returns-clause-owed : goal.returns-clause-owed
returns-clause-owed c = λ b.
    let s = record_state c.self.inside in
    let r = s.protocol in
    let j = r.journal in
    let at = goal.at.returns-clause-owed c in
    let brings = rw (← c.self.view_is) at b in
    let landings = brought_landings r s.ports c.self.invariant.numbers c.args.first (lists at.After-count_lists-count) brings in
    let journal = journal_is at.After-begin (cut_is at.After-count_lists-count)
    ∙ ap (λ (es : List Entry). with_history (discarded j) (entries_with es j)) landings in
    let gate = gate_is at.After-begin (last_is at.After-count_lists-count) in
    search (arith, rules, gate, journal)

pub returns-clause-owed_ports : goal.returns-clause-owed_ports
returns-clause-owed_ports c = λ b.
    let s = record_state c.self.inside in
    let at = goal.at.returns-clause-owed_ports c in
    let brings = rw (← c.self.view_is) at b in
    rw (← c.self.view_is) (ports_are at.After-begin (cut_is at.After-count_lists-count)
    ∙ brought_ports s.protocol s.ports c.self.invariant.numbers c.args.first (lists at.After-count_lists-count) brings)
