-- What happens between two looks of a backup that is live at both and made no step.
use Rattle.std.proofs.Common.{◌≡◌, ◌≢◌, ℕ, zero, suc, List, [], ◌∷◌, false, refl, sym, ap, ◌∙◌, subst, arith, true≢false}
use Rattle.failover.specs.declared.mode.Mode.{Mode}
use Rattle.failover.specs.declared.mode.Mode.TheVariants.{Paired, Filling, Alone, Stopped}
use Rattle.pair_history.specs.HistoryState.{HistoryState}
use Rattle.growing_history.specs.Steps.{What, Added, Sealed, RanAlone, Committed, PrimaryFailed, BackupFailed, WentLive, Protected, Step}
use Rattle.growing_history.specs.Steps.{Begins, steps_by}
use Rattle.growing_history.specs.LogState.{LogState, start_of, IsAlone, MaySeal, after_step, Needs, state_after, LegalFrom, LegalSteps}
use Rattle.growing_history.specs.LogState.{state_at}
use Rattle.growing_history.specs.laws.Logs.{numbers, numbers-rise}
use Rattle.growing_history.specs.laws.Between.{none-first, none-between, same, later}
use Rattle.growing_history.specs.laws.LinesFirst.{entries-guest}
use Rattle.failover.specs.Modes.{is_filling}

-- A backup whose pair isn't alone now wasn't alone then; it is filled now where it was then, and then the history has the guest that it
-- had.
abbrev Stays : LogState → LogState → Type 0
Stays s t = (IsAlone s.mode → ⊥) × (is_filling t.mode ≡ is_filling s.mode)
    × (is_filling s.mode ≡ false → t.history.guest ≡ s.history.guest)

-- what one step of another leaves the backup
backup-step : (s : LogState) (by : ℕ) (w : What) (n : ℕ) → Needs s (record { by = by; what = w }) → by ≢ n → s.backup ≡ n
    → (after_step s w).backup ≡ n → (IsAlone (after_step s w).mode → ⊥) → Stays s (after_step s w)
backup-step s by (Added es) n needs other is now paired = (paired, refl, λ f. entries-guest by es s.history needs.may)
backup-step s by (Sealed x zero epoch text) n needs other is now paired = (paired, refl, λ f. absurd (full s.mode needs.may.1 f))
  where
    full : (m : Mode) → MaySeal 0 m → is_filling m ≡ false → ⊥
    full Paired a f = a
    full Filling a f = true≢false f
    full Alone a f = a
    full Stopped a f = a
backup-step s by (Sealed x (suc k) epoch text) n needs other is now paired = (paired, refl, λ f. refl)
backup-step s by (RanAlone epoch) n needs other is now paired = absurd (paired needs.may.1)
backup-step s by (Committed x k text) n needs other is now paired = absurd (other (needs.may.0 ∙ is))
backup-step s by PrimaryFailed n needs other is now paired =
    (subst (λ m. IsAlone m → ⊥) (sym needs.may.1) (λ a. a), ap is_filling (sym needs.may.1), λ f. refl)
backup-step s by BackupFailed n needs other is now paired = absurd (paired tt)
backup-step s by (WentLive r) n needs other is now paired = absurd (paired tt)
backup-step s by (Protected b) n needs other is now paired = absurd (omega (arith, needs.may.2.1, is, now))

backup-steps : (s : LogState) (xs : List Step) (n : ℕ) → LegalFrom s xs → steps_by n xs ≡ [] → s.backup ≡ n → (state_after s xs).backup ≡ n
    → (IsAlone (state_after s xs).mode → ⊥) → Stays s (state_after s xs)
backup-steps s [] n l others is now paired = (paired, refl, λ f. refl)
backup-steps s (x ∷ xs) n l others is now paired =
    let t = after_step s x.what in
    let apart = none-first n x xs others in
    let there : t.backup ≡ n = omega (arith, (numbers s x.by x.what l.0).1, (numbers-rise t xs l.1).1, is, now) in
    let rest = backup-steps t xs n l.1 apart.1 there now paired in
    let one = backup-step s x.by x.what n l.0 apart.0 is there rest.0 in
    (one.0, rest.1 ∙ one.1, λ f. rest.2 (one.1 ∙ f) ∙ one.2 f)

pub backup-misses-nothing : (h : HistoryState) (old now : List Step) (n : ℕ) (b : Begins old now) (l : LegalSteps h now)
    (own : steps_by n now ≡ steps_by n old) → (state_at h old).backup ≡ n → (state_at h now).backup ≡ n
    → (IsAlone (state_at h now).mode → ⊥) → Stays (state_at h old) (state_at h now)
unfolding state_at
backup-misses-nothing h old now n b l own was is paired =
    let s = state_after (start_of h) old in
    let both = same h old now b in
    subst (Stays s) (sym both)
    (backup-steps s b.0 n (later h old now b l) (none-between n old now b own) was (subst (λ (t : LogState). t.backup ≡ n) both is)
    (subst (λ (t : LogState). IsAlone t.mode → ⊥) both paired))
