-- Laws of a node that is alone: what the gate held lands, followed by the outbox, and nothing is kept or pending.
use Rattle.std.proofs.Common.{rules, ◌≡◌, ℕ, ◌+◌, ◌*◌, ◌≤◌, List, [], ◌∷◌, ◌++◌, length, sym, ap, ◌∙◌, arith, Bool, cond, Some}
use Rattle.std.proofs.{Common.{None, mul-le-mul_right}, lemmas.Bool.Decides.nat_tests, lemmas.List.length-append}
use Rattle.std.specs.Prelude.{nat_le, min}
use Rattle.frame_ports.specs.{Addresses.targets_of, Limits.number_limit}
use Rattle.frame_ports.specs.laws.Addresses.{length-targets_of, targets_of-append}
use Rattle.output_gate.specs.Epochs.{epoch, frames_of, frames_to}
use Rattle.pair_history.specs.Entries.{Frame}
use Rattle.pair_record.specs.{Protocol.{Record, all_held, exhausts, frames_run_out, first_refusal}, Record.IsRecord}
use Rattle.pair_record.specs.{EpochActs.enter_epoch_refusals, declared.event.Refusal.TheVariants.Exhausted}
use Rattle.pair_history.specs.Journal.{all_entries}
use Rattle.pair_record.specs.laws.Windows.{NumberedFrom-push, frames_to-all, frames_of-push}

-- to how many clients all that is held goes, and then the outbox
pub count-all : (boxes : List (List Frame)) (outbox : List Frame) (r : Record)
    → length (targets_of (length boxes) (frames_of r.pending)) + length (targets_of (length boxes) outbox) ≡ length (all_held boxes outbox r)
count-all boxes outbox r =
    let n = length boxes in
    let fs = frames_of r.pending in
    sym (length-append (targets_of n fs) (targets_of n outbox)) ∙ ap length (sym (targets_of-append n fs outbox))

module _ (r : Record) (h : IsRecord r) where
  -- all that the gate holds has numbers below the next one
  pub held_are : frames_to r.window.to_cut r.pending ≡ frames_of r.pending
  held_are =
      frames_to-all r.window.to_cut r.window.to_acknowledge r.pending h.window.numbers (let c = h.window.count in omega arith)

  -- and with the outbox held behind it, up to it
  pub all_are : (outbox : List Frame)
      → frames_to r.window.to_cut (r.pending ++ epoch r.window.to_cut outbox ∷ []) ≡ frames_of r.pending ++ outbox
  all_are outbox =
      let e = epoch r.window.to_cut outbox in
      let long = length-append r.pending (e ∷ []) in
      let c = h.window.count in
      frames_to-all r.window.to_cut r.window.to_acknowledge (r.pending ++ e ∷ [])
      (NumberedFrom-push r.window.to_acknowledge r.pending e h.window.numbers (sym h.window.count)) (omega arith)
      ∙ frames_of-push r.pending e

-- 64 frames go to 64 times as many as there are clients, at most
pub few_targets : (n : ℕ) (fs : List Frame) → length fs ≤ 64 → length (targets_of n fs) ≤ 64 * n
few_targets n fs few = search (arith, rules, length-targets_of, mul-le-mul_right)

-- The row of an epoch that enters the history, where the sum of what it adds was cut off at a number that is beyond all entries

capped : (used more : ℕ) → nat_le number_limit (used + min more 18446744073709551615) ≡ nat_le number_limit (used + more)
capped used more = grind (arith, nat_tests)

pub enter_row : (boxes : List (List Frame)) (r : Record) (steps count sum : ℕ) (fs : List Frame) (t : Bool)
    → count ≡ length (targets_of (length boxes) fs) → sum ≡ min (steps + count) 18446744073709551615 → t ≡ exhausts r sum
    → cond t (Some Exhausted) (cond (frames_run_out r) (Some Exhausted) None) ≡ first_refusal (enter_epoch_refusals steps boxes fs r)
enter_row boxes r steps count sum fs t counted summed row =
    ap (λ b. cond b (Some Exhausted) (cond (frames_run_out r) (Some Exhausted) None))
    (row ∙ ap (exhausts r) summed ∙ capped (length (all_entries r.journal)) (steps + count)
    ∙ ap (λ k. exhausts r (steps + k)) counted)
