-- What the first runner and the first backup know, before any step; and a new backup.
use Rattle.std.proofs.Common.{◌≡◌, ℕ, ◌-◌, List, [], ◌∷◌, ◌++◌, length, drop, refl, sym, ap, ◌∙◌, subst, true≢false, arith}
use Rattle.std.proofs.{Common.{None, Some}, lemmas.List.Elements.All-nil}
use Rattle.guest_rules.specs.Guest.{Guest}
use Rattle.pair_history.specs.Entries.{Frame}
use Rattle.pair_history.specs.HistoryState.{HistoryState, sent_along, frame_numbered}
use Rattle.growing_history.specs.Steps.{Protected, Step, step}
use Rattle.growing_history.specs.LogState.{LogState, start_of, first_runner, first_backup, sealed_state, state_at, after_step}
use Rattle.growing_history.specs.laws.Logs.{state-nil, state-snoc}
use Rattle.pair_book.specs.Settled.{EpochFollows, epoch_of, settled_runner, Follows, Runs}
use Rattle.pair_book.specs.Standing.{KeepsLast, KeepsFrames, ack_before, last_ack, first_ack, Stands}
use Rattle.pair_book.proofs.CommittedLaws.{commits-nil, commits-snoc}
use Rattle.failover.specs.Modes.{is_filling}

-- an epoch of no arrival and no step, along which the guest sends nothing
pub start-settled : (start : HistoryState) → EpochFollows start (record { number = first_runner; steps = [] }) 0 0 []
start-settled start =
    let there = state-nil start in
    let runner = ap (λ (u : LogState). u.runner) there in
    record {
      born = omega (arith, runner);
      held = λ live. omega arith;
      sent = λ live none. sym (ap (λ (u : LogState). sent_along (sealed_state u) (epoch_of u.handed 0 0)) there);
    }

-- it has committed nothing
pub start-frames : (start : HistoryState) → KeepsFrames start (record { number = first_backup; steps = [] }) 0 1 []
start-frames start =
    let backup = ap (λ (u : LogState). u.backup) (state-nil start) in
    record {
      born = omega (arith, backup);
      keeps = λ live none.
          subst (λ (l : List (List Frame)). KeepsLast l 0 1 []) (sym (commits-nil start)) (record { last = refl; count = refl; number = refl });
    }

-- THE WHOLE of what they begin with

pub start-runs : (start : HistoryState) → Runs start (record { number = first_runner; steps = [] }) (settled_runner start.guest [])
start-runs start =
    let there = state-nil start in
    let first : Follows (start_of start) (settled_runner start.guest []) =
    record {
      held = All-nil (λ (p : ℕ × Frame). frame_numbered p.0 start.waiting ≡ Some p.1);
      settled = refl;
      guest = refl;
      outbox = refl;
    } in
    record {
      born = let runner = ap (λ (u : LogState). u.runner) there in omega (arith, runner);
      came = λ live. omega arith;
      holds = λ live. sym (ap (λ (u : LogState). drop 0 u.handed) there);
      follows = λ live none. subst (λ (u : LogState). Follows u (settled_runner start.guest [])) (sym there) first;
    }

pub start-stands : (start : HistoryState)
    → Stands start (record { number = first_backup; steps = [] }) start.guest (Some first_ack) 0 1 []
start-stands start =
    let there = state-nil start in
    record {
      frames = start-frames start;
      committed = λ live. sym (ap last_ack there);
      guest = λ live none filled. sym (ap (λ (u : LogState). u.history.guest) there);
    }

-- a new backup has committed nothing, and is to be filled
pub new-stands : (start : HistoryState) (steps : List Step) (b : ℕ) (image : Guest)
    → Stands start (record { number = b; steps = steps ++ step 0 (Protected b) ∷ [] }) image None 0 1 []
new-stands start steps b image =
    let there = state-snoc start steps (step 0 (Protected b)) in
    let u = after_step (state_at start steps) (Protected b) in
    let none : 0 ≡ 0 - length u.sealed = omega arith in
    let filling = ap (λ (v : LogState). is_filling v.mode) there in
    record {
      frames = record {
        born = let same = ap (λ (v : LogState). v.backup) there in omega (arith, same);
        keeps = λ live unmarked.
            subst (λ (l : List (List Frame)). KeepsLast l 0 1 []) (sym (commits-snoc start steps (step 0 (Protected b))))
            (record { last = refl; count = refl; number = refl });
      };
      committed = λ live. ap (ack_before u.generation) none ∙ ap last_ack (sym there);
      guest = λ live unmarked filled. absurd (true≢false (sym filling ∙ filled));
    }
