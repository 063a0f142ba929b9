-- Whose seats are live, where others' steps are made.
use Rattle.std.proofs.Common.{◌≡◌, ℕ, zero, suc, ◌+◌, ◌≤◌, [], ◌∷◌, ◌++◌, length, refl, ap, ◌∙◌, arith}
use Rattle.pair_history.specs.HistoryState.{HistoryState}
use Rattle.growing_history.specs.Steps.{What, Sealed, WentLive, Protected, step}
use Rattle.frame_ports.specs.Limits.{max_clients}
use Rattle.growing_history.specs.LogState.{LogState, state_at, after_step, start_of, first_runner, first_backup, client_seat, IsNew}
use Rattle.growing_history.specs.Views.{Keeper}
use Rattle.growing_history.specs.laws.Logs.{state-nil, state-snoc}
use Rattle.growing_history.specs.laws.Seats.{seats-last}
use Rattle.pair_book.specs.internal.Live.{AreLive, LeavesLive}

-- the next number is a new one
pub next_is_new : (start : HistoryState) (k : Keeper) (runner backup : ℕ) → AreLive start k runner backup
    → IsNew (state_at start k.steps) (k.enrolled + 1)
next_is_new start k runner backup live =
    let last = seats-last start k.steps in (
      omega (arith, live.runner, live.given.0),
      omega (arith, live.backup, live.given.1),
      omega (arith, last, live.given.2),
    )

-- such a step leaves these numbers, and the generation
record Leaves (s t : LogState) : Type 0 where
  runner : t.runner ≡ s.runner
  backup : t.backup ≡ s.backup
  generation : t.generation ≡ s.generation

leaves : (s : LogState) (w : What) → LeavesLive w → Leaves s (after_step s w)
leaves s (Sealed g zero epoch text) l = record { runner = refl; backup = refl; generation = refl }
leaves s (Sealed g (suc n) epoch text) l = record { runner = refl; backup = refl; generation = refl }
leaves s (WentLive r) l = absurd l
leaves s (Protected b) l = absurd l
leaves s other l = record { runner = refl; backup = refl; generation = refl }

module _ (start : HistoryState) (k : Keeper) (runner backup by : ℕ) (live : AreLive start k runner backup) where
  abbrev s : LogState
  s = state_at start k.steps

  abbrev with_step : What → Keeper
  with_step w = record k { steps = k.steps ++ step by w ∷ [] }

  pub still_live : (w : What) → LeavesLive w → AreLive start (with_step w) runner backup
  still_live w l =
      let same = leaves s w l in
      let there = state-snoc start k.steps (step by w) in
      record {
        runner = ap (λ (u : LogState). u.runner) there ∙ same.runner ∙ live.runner;
        backup = ap (λ (u : LogState). u.backup) there ∙ same.backup ∙ live.backup;
        given = live.given;
        few =
            let g = ap (λ (u : LogState). u.generation) there ∙ same.generation in
            omega (arith, live.few, g);
      }

  abbrev with_seat : What → Keeper
  with_seat w = record { steps = k.steps ++ step by w ∷ []; enrolled = k.enrolled + 1 }

  pub protected_live : AreLive start (with_seat (Protected (k.enrolled + 1))) runner (k.enrolled + 1)
  protected_live =
      let there = state-snoc start k.steps (step by (Protected (k.enrolled + 1))) in
      record {
        runner = ap (λ (u : LogState). u.runner) there ∙ live.runner;
        backup = ap (λ (u : LogState). u.backup) there;
        given = (omega (arith, live.given.0), omega arith, omega (arith, live.given.2));
        few =
            let g = ap (λ (u : LogState). u.generation) there in
            omega (arith, live.few, g);
      }

  pub went_live : AreLive start (with_seat (WentLive (k.enrolled + 1))) (k.enrolled + 1) backup
  went_live =
      let there = state-snoc start k.steps (step by (WentLive (k.enrolled + 1))) in
      record {
        runner = ap (λ (u : LogState). u.runner) there;
        backup = ap (λ (u : LogState). u.backup) there ∙ live.backup;
        given = (omega arith, omega (arith, live.given.1), omega (arith, live.given.2));
        few =
            let g = ap (λ (u : LogState). u.generation) there in
            omega (arith, live.few, g);
      }

-- at the start, once every client has its number
pub first_live : (start : HistoryState) (k : Keeper) → k.steps ≡ [] → client_seat (length start.boxes) ≤ k.enrolled
    → k.enrolled ≤ client_seat (length start.boxes) → length start.boxes ≤ max_clients → AreLive start k first_runner first_backup
first_live start k none least most few =
    let there : state_at start k.steps ≡ start_of start = ap (state_at start) none ∙ state-nil start in
    record {
      runner = ap (λ (u : LogState). u.runner) there;
      backup = ap (λ (u : LogState). u.backup) there;
      given = (omega (arith, least), omega (arith, least), least);
      few =
          let g = ap (λ (u : LogState). u.generation) there in
          omega (arith, most, few, g);
    }
