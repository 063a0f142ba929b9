use Rattle.std.proofs.Common.{rules, ◌≡◌, ◌∙◌, ◌+◌, ◌-◌, ◌<◌, ◌≤◌, List, length, map, take, ap, sym, arith, Some, None}
use Rattle.frame_ports.specs.Limits.{number_limit}
use Rattle.pair_history.specs.Entries.{Frame, Entry}
use Rattle.pair_record.specs.{FailureActs.{first_uncommitted, live_refusals}, Record.RecordState, internal.RecordFields.record_state}
use Rattle.pair_history.specs.LandedEntries.{all_frames, entries_after}
use Rattle.pair_record.specs.Kept.{brought_entries, brought_refusals}
use Rattle.pair_record.specs.{declared.event.Refusal.TheVariants.Exhausted, Protocol.first_refusal}
use Rattle.pair_record.specs.laws.Owed.{brought_landings}
use Rattle.pair_record.proofs.LiveLaws.{live_count, live_refused, live_allowed}
use Rattle.pair_record.proofs.record.PairRecord.go_live_refusal.Goals.{After-len}
use Rattle.pair_record.proofs.record.PairRecord.go_live_refusal.Goals as goal

abbrev lists : (c : After-len) → List (List Frame)
lists c = map (λ v. v.items) c.args.kept.now

abbrev landed : (c : After-len) → List Entry
landed c = brought_entries (record_state c.self.inside).protocol c.self.inside.ports c.args.first (lists c)

-- what was counted
landed_is : (c : After-len) → length (entries_after c.self.inside.ports c.args.first
    (take (c.last_committed-end.result + 1 - c.args.first) (all_frames (lists c)))) ≡ length (landed c)
landed_is c =
    ap (λ n. length (entries_after c.self.inside.ports c.args.first (take (n - c.args.first) (all_frames (lists c)))))
    (c.last_committed-end.ensures.last ∙ ap (λ (t : RecordState). first_uncommitted t.protocol) (sym c.self.view_is))

count_is : (c : After-len) → c.len.result + (c.taken_in.result + c.count_lists-landing.result)
    ≡ live_count (record_state c.self.inside).protocol c.count_lists-landing.result
count_is c = search (arith, rules)

-- the table, where too many are added, and where they aren't
refused : (c : After-len) → number_limit ≤ c.len.result + (c.taken_in.result + c.count_lists-landing.result)
    → Some Exhausted
    ≡ first_refusal (brought_refusals (record_state c.self.inside).protocol c.self.inside.ports c.args.first (lists c))
refused c many =
    let is = landed_is c in
    let count = count_is c in
    let most = c.count_lists-landing.ensures.most in
    live_refused (record_state c.self.inside).protocol (landed c) (omega arith) c.count_lists-landing.result (omega arith)
    (λ below. let exact = c.count_lists-landing.ensures.exact below in omega arith) (omega arith)

allowed : (c : After-len) → c.len.result + (c.taken_in.result + c.count_lists-landing.result) < number_limit
    → None ≡ first_refusal (brought_refusals (record_state c.self.inside).protocol c.self.inside.ports c.args.first (lists c))
allowed c few =
    let is = landed_is c in
    let count = count_is c in
    let most = c.count_lists-landing.ensures.most in
    live_allowed (record_state c.self.inside).protocol (landed c) (omega arith) c.count_lists-landing.result (omega arith)
    (λ below. let exact = c.count_lists-landing.ensures.exact below in omega arith) (omega arith)

pub returns-then-len-dropped-ge-NUMBER_LIMIT-clause-refusal : goal.returns-then-len-dropped-ge-NUMBER_LIMIT-clause-refusal
returns-then-len-dropped-ge-NUMBER_LIMIT-clause-refusal c =
    rw (← c.self.view_is) (refused (goal.at.returns-then-len-dropped-ge-NUMBER_LIMIT-clause-refusal c).After-len (omega arith))

pub returns-then-len-dropped-ge-NUMBER_LIMIT-clause-owed : goal.returns-then-len-dropped-ge-NUMBER_LIMIT-clause-owed
returns-then-len-dropped-ge-NUMBER_LIMIT-clause-owed c = λ b.
    let s = record_state c.self.inside in
    let at = (goal.at.returns-then-len-dropped-ge-NUMBER_LIMIT-clause-owed c).After-len in
    let brings = rw (← c.self.view_is) at b in
    rw (← c.self.view_is) (refused at (omega arith)
    ∙ ap (λ (es : List Entry). first_refusal (live_refusals es s.protocol))
    (brought_landings s.protocol s.ports c.self.invariant.numbers c.args.first (lists at) brings))

pub returns-else-len-dropped-ge-NUMBER_LIMIT-clause-refusal : goal.returns-else-len-dropped-ge-NUMBER_LIMIT-clause-refusal
returns-else-len-dropped-ge-NUMBER_LIMIT-clause-refusal c =
    rw (← c.self.view_is) (allowed (goal.at.returns-else-len-dropped-ge-NUMBER_LIMIT-clause-refusal c).After-len (omega arith))

pub returns-else-len-dropped-ge-NUMBER_LIMIT-clause-owed : goal.returns-else-len-dropped-ge-NUMBER_LIMIT-clause-owed
returns-else-len-dropped-ge-NUMBER_LIMIT-clause-owed c = λ b.
    let s = record_state c.self.inside in
    let at = (goal.at.returns-else-len-dropped-ge-NUMBER_LIMIT-clause-owed c).After-len in
    let brings = rw (← c.self.view_is) at b in
    rw (← c.self.view_is) (allowed at (omega arith)
    ∙ ap (λ (es : List Entry). first_refusal (live_refusals es s.protocol))
    (brought_landings s.protocol s.ports c.self.invariant.numbers c.args.first (lists at) brings))
