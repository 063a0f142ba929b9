-- What a backup's going live makes of its image, and which refusals it may answer.
use Rattle.std.proofs.Common.{◌≡◌, ℕ, ◌+◌, List, [], ◌∷◌, ◌++◌, length, refl, sym, ap, ◌∙◌, subst, Bool, true, false}
use Rattle.std.proofs.lemmas.List.{append_assoc}
use Rattle.std.specs.Prelude.{not, nat_le}
use Rattle.std.specs.List.{Contains}
use Rattle.memory_wanted.specs.Wanted.{wanted}
use Rattle.failover.specs.declared.change.Change.TheVariants as changes
use Rattle.failover.specs.declared.mode.Mode.{Mode}
use Rattle.failover.specs.declared.mode.Mode.TheVariants as modes
use Rattle.backup_image.specs.Images.{ImageState}
use Rattle.frame_ports.specs.Limits.{number_limit}
use Rattle.growing_history.specs.LogState.{LogState, LegalSteps, state_at, sealed_state, after_step}
use Rattle.growing_history.specs.Steps.{Step, WentLive, step}
use Rattle.growing_history.specs.Views.{Member}
use Rattle.pair_history.specs.Entries.{Frame}
use Rattle.pair_history.specs.HistoryState.{HistoryState}
use Rattle.pair_record.specs.declared.event.Refusal.{Refusal}
use Rattle.pair_record.specs.declared.event.Refusal.TheVariants.{Stopped, NotPaired, AlreadyPaired, NoMemory, Exhausted}
use Rattle.pair_record.specs.FailureActs.{entries_with}
use Rattle.pair_record.specs.Kept.{brought_entries}
use Rattle.pair_record.specs.Modes.{change_refusal}
use Rattle.pair_record.specs.Protocol.{Row, first_refusal}
use Rattle.pair_book.specs.Books.{BookState}
use Rattle.pair_book.specs.Calls.{IsWhy, is_word_full}
use Rattle.pair_book.specs.Failures.{first_of}
use Rattle.pair_book.specs.GoingLive.{GoesLive, BeginsWithImage, is_backup, go_live_why}
use Rattle.hypervisor.specs.Backups.{last_of, ImageStands, kept_of}
use Rattle.hypervisor.specs.GoingLive.{GoesLiveWith, live_refusals}
use Rattle.backup_image.specs.Kept.{first_kept}
use Rattle.hypervisor.proofs.{StandLaws.some-standing, Whys.{first, later}}

-- THE TABLE

abbrev rows : Bool → Bool → Bool → Bool → List Row
rows mine last many full = (not mine, Stopped) ∷ (last, Exhausted) ∷ (many, Exhausted) ∷ (full, Exhausted) ∷ []

after-pair : (why : Refusal) → Contains (Stopped ∷ Exhausted ∷ NoMemory wanted ∷ []) why → Contains live_refusals why
after-pair why h =
    later why NotPaired (AlreadyPaired ∷ Stopped ∷ Exhausted ∷ NoMemory wanted ∷ [])
    (later why AlreadyPaired (Stopped ∷ Exhausted ∷ NoMemory wanted ∷ []) h)

is_exhausted : (why : Refusal) → why ≡ Exhausted → Contains live_refusals why
is_exhausted why e =
    after-pair why (later why Stopped (Exhausted ∷ NoMemory wanted ∷ []) (first why Exhausted (NoMemory wanted ∷ []) e))

by-rows : (mine last many full : Bool) (why : Refusal) → IsWhy (first_refusal (rows mine last many full)) why → Contains live_refusals why
by-rows false last many full why e = after-pair why (first why Stopped (Exhausted ∷ NoMemory wanted ∷ []) e)
by-rows true true many full why e = is_exhausted why e
by-rows true false true full why e = is_exhausted why e
by-rows true false false true why e = is_exhausted why e
by-rows true false false false why e =
    after-pair why (later why Stopped (Exhausted ∷ NoMemory wanted ∷ []) (later why Exhausted (NoMemory wanted ∷ [])
    (first why (NoMemory wanted) [] e)))

by-mode : (mode : Mode) (mine last many full : Bool) (why : Refusal)
    → IsWhy (first_of (change_refusal changes.GoLive mode) (rows mine last many full)) why → Contains live_refusals why
by-mode modes.Paired mine last many full why e =
    later why NotPaired (AlreadyPaired ∷ Stopped ∷ Exhausted ∷ NoMemory wanted ∷ [])
    (first why AlreadyPaired (Stopped ∷ Exhausted ∷ NoMemory wanted ∷ []) e)
by-mode modes.Filling mine last many full why e =
    later why NotPaired (AlreadyPaired ∷ Stopped ∷ Exhausted ∷ NoMemory wanted ∷ [])
    (first why AlreadyPaired (Stopped ∷ Exhausted ∷ NoMemory wanted ∷ []) e)
by-mode modes.Alone mine last many full why e =
    first why NotPaired (AlreadyPaired ∷ Stopped ∷ Exhausted ∷ NoMemory wanted ∷ []) e
by-mode modes.Stopped mine last many full why e = by-rows mine last many full why e

pub go-live-why : (start : HistoryState) (b : BookState) (number at : ℕ) (kept : List (List Frame)) (why : Refusal)
    → IsWhy (go_live_why start b number at kept) why → Contains live_refusals why
go-live-why start b number at kept why e =
    let r = b.protocol in
    let many = nat_le number_limit (length r.journal.history + length (entries_with (brought_entries r b.ports at kept) r.journal)) in
    by-mode r.mode (is_backup start b number) (nat_le number_limit (r.generation + 1)) many (is_word_full b) why e

-- WHAT THE RUNNER BEGINS WITH

-- what a step makes of the state
abbrev pub StateLaw : Type 0
StateLaw = (h : HistoryState) (xs : List Step) (x : Step) → state_at h (xs ++ x ∷ []) ≡ after_step (state_at h xs) x.what

nothing-sealed : (s t : LogState) (r : ℕ) → t ≡ after_step s (WentLive r) → (sealed_state t).guest ≡ t.history.guest
nothing-sealed s t r is = subst (λ (u : LogState). (sealed_state u).guest ≡ u.history.guest) (sym is) refl

module _ (start : HistoryState) (b b' : BookState) (seat seat' runner : Member) (i : ImageState) (at : ℕ) (kept : List (List Frame))
    (goes : GoesLive b b' seat seat') (is : runner ≡ record { number = b'.enrolled; steps = b'.steps }) (legal : LegalSteps start b'.steps)
    (law : StateLaw) (begins : BeginsWithImage start seat runner at kept) (first-is : at ≡ first_kept (kept_of i)) (kept-is : kept ≡ i.kept)
    (stands : ImageStands start seat i) where
  number : runner.number ≡ b.enrolled + 1
  number = ap (λ (m : Member). m.number) is ∙ goes.enrolled

  steps : runner.steps ≡ b.steps ++ step 0 (WentLive runner.number) ∷ []
  steps =
      ap (λ (m : Member). m.steps) is
      ∙ goes.steps
      ∙ ap (λ (n : ℕ). b.steps ++ step 0 (WentLive n) ∷ []) (sym number)

  there : state_at start runner.steps ≡ after_step (state_at start b.steps) (WentLive runner.number)
  there = ap (state_at start) steps ∙ law start b.steps (step 0 (WentLive runner.number))

  begun : BeginsWithImage start seat runner (first_kept (kept_of i)) i.kept
  begun = subst (λ (x : ℕ × List (List Frame)). BeginsWithImage start seat runner x.0 x.1) (λ k. (first-is k, kept-is k)) begins

  pub goes-live-with : GoesLiveWith start i seat runner
  goes-live-with =
      let has = begun i.guest (last_of i) i.sent stands in
      record {
        some = some-standing i.stands_at has.0;
        step = record { legal = subst (λ (m : Member). LegalSteps start m.steps) (sym is) legal; last = (b.steps, steps) };
        saw = (
          goes.saw.0 ++ step 0 (WentLive runner.number) ∷ [],
          steps
              ∙ ap (λ (xs : List Step). xs ++ step 0 (WentLive runner.number) ∷ []) goes.saw.1
              ∙ append_assoc seat.steps goes.saw.0 (step 0 (WentLive runner.number) ∷ []),
        );
        seen = has.1;
        now = λ none.
            (has.2.follows (ap (λ (s : LogState). s.runner) there) none).settled
            ∙ nothing-sealed (state_at start b.steps) (state_at start runner.steps) runner.number there;
        runs = has.2;
      }
