-- What going live adds to the history, and what is true of the record after it.
use Rattle.std.proofs.Common.{rules, ◌≡◌, ℕ, ◌+◌, ◌-◌, ◌<◌, ◌≤◌, List, [], ◌++◌, length, sym, ap, ◌∙◌, arith, append_assoc, Bool, true}
use Rattle.std.proofs.{Common.{cond, Some, None}, lemmas.List.{append-nil, length-take-le, nil_from_length}}
use Rattle.std.proofs.lemmas.Bool.{leb-false, le-leb, lt-leb}
use Rattle.std.specs.Prelude.{nat_le}
use Rattle.frame_ports.specs.Limits.{number_limit}
use Rattle.output_gate.specs.Epochs.{Epoch, frames_of, frames_to}
use Rattle.pair_history.specs.{Entries.Entry, Failures.{arrived_numbers}}
use Rattle.pair_history.specs.Journal.{Journal, kept_entries, with_history}
use Rattle.pair_record.specs.{declared.event.Refusal.TheVariants.Exhausted, declared.window.Window.Window, FailureActs.entries_with}
use Rattle.pair_record.specs.{FailureActs.{live_refusals}, Protocol.{Record, first_refusal}, Window.IsWindow}
use Rattle.pair_record.specs.Window.{first_after, committed_count, committed_of}
use Rattle.pair_record.specs.laws.{Tables.passed, Windows.{within, leaves, gone}, Live.length-live}

-- What the gate holds of committed checkpoints

pub committed_held : (w : Window) (pending : List Epoch) → IsWindow w pending → w.to_acknowledge < w.to_commit
    → frames_to (w.to_commit - 1) pending ≡ frames_of (committed_of w pending)
committed_held w pending h some =
    let n = w.to_commit - 1 in
    let below : n < w.to_commit = omega arith in
    let t = leaves w pending h n below in
    let from : nat_le w.to_acknowledge n ≡ true = le-leb w.to_acknowledge n (omega arith) in
    let start : first_after n w.to_acknowledge ≡ n + 1 = ap (λ (b : Bool). cond b (n + 1) w.to_acknowledge) from in
    let whole : length (committed_of w pending) ≡ committed_count w = length-take-le (committed_count w) pending (within w pending h) in
    let none : length t.stay ≡ 0 = let k = t.count in omega arith in
    gone w pending h n below
    ∙ ap frames_of (sym (append-nil t.gone) ∙ ap (λ es. t.gone ++ es) (sym (nil_from_length t.stay none)) ∙ sym t.split)

pub none_committed : (w : Window) (pending : List Epoch) → w.to_commit ≤ w.to_acknowledge → frames_of (committed_of w pending) ≡ []
none_committed w pending l = search (arith, rules)

-- The record

-- how many entries the history would have, where so many say what lands
abbrev pub live_count : Record → ℕ → ℕ
live_count r landed = length r.journal.history + (length (arrived_numbers (kept_entries r.journal)) + landed)

-- the table of refusals, where there is a next generation
module _ (r : Record) (landed : List Entry) (next : r.generation + 1 < number_limit) where
  live_row : first_refusal (live_refusals landed r) ≡ cond (nat_le number_limit (live_count r (length landed))) (Some Exhausted) None
  live_row = search (arith, rules, length-live, lt-leb)

  -- by a count that stops at the limit
  module _ (count : ℕ) (most : count ≤ length landed) (exact : count < number_limit → count ≡ length landed) where
    pub live_refused : number_limit ≤ live_count r count → Some Exhausted ≡ first_refusal (live_refusals landed r)
    live_refused h =
        sym (live_row
        ∙ ap (λ (t : Bool). cond t (Some Exhausted) None) (le-leb number_limit (live_count r (length landed)) (omega arith)))

    pub live_allowed : live_count r count < number_limit → None ≡ first_refusal (live_refusals landed r)
    live_allowed h =
        let same = exact (omega arith) in
        sym (live_row
        ∙ ap (λ (t : Bool). cond t (Some Exhausted) None) (lt-leb number_limit (live_count r (length landed)) (omega arith)))

-- and where it refuses nothing, the history has numbers for all that is added
pub live_fits : (r : Record) (landed : List Entry) → first_refusal (live_refusals landed r) ≡ None
    → live_count r (length landed) < number_limit
live_fits r landed free =
    let j = r.journal in
    let many = length j.history + length (entries_with landed j) in
    let row = passed (nat_le number_limit (r.generation + 1)) Exhausted (cond (nat_le number_limit many) (Some Exhausted) None) free in
    let fits = leb-false number_limit many (passed (nat_le number_limit many) Exhausted None row.1).0 in
    let all = length-live landed j in
    omega arith

-- the history goes on by these entries, and then by those
pub goes_on_twice : (j : Journal) (es fs : List Entry) → with_history (with_history j es) fs ≡ with_history j (es ++ fs)
goes_on_twice j es fs = λ i. record j { history = append_assoc j.history es fs i }
