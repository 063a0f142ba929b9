-- The last acknowledgement stays between two looks of a backup that is live at both and made no step.
use Rattle.std.proofs.Common.{◌≡◌, ◌≢◌, ℕ, zero, suc, ◌+◌, ◌-◌, List, [], ◌∷◌, ◌++◌, length, refl, sym, ap, ◌∙◌, subst, arith}
use Rattle.std.proofs.lemmas.List.{length-append}
use Rattle.pair_history.specs.HistoryState.{HistoryState}
use Rattle.growing_history.specs.Steps.{What, Added, Sealed, RanAlone, Committed, PrimaryFailed, BackupFailed, WentLive, Protected, Step}
use Rattle.growing_history.specs.Steps.{Begins, steps_by}
use Rattle.growing_history.specs.LogState.{LogState, Epoch, start_of, IsAlone, after_step, Needs, state_after, LegalFrom, LegalSteps, state_at}
use Rattle.growing_history.specs.laws.Logs.{numbers, numbers-rise}
use Rattle.growing_history.specs.laws.Between.{none-first, none-between, same, later}
use Rattle.pair_book.specs.Standing.{ack_before, last_ack}

-- what one step of another leaves the backup, if no node is alone after it
ack-step : (s : LogState) (by : ℕ) (w : What) (n : ℕ) → Needs s (record { by = by; what = w }) → by ≢ n → s.backup ≡ n
    → (after_step s w).backup ≡ n → (IsAlone (after_step s w).mode → ⊥) → (IsAlone s.mode → ⊥) × (last_ack (after_step s w) ≡ last_ack s)
ack-step s by (Added es) n needs other is now paired = (paired, refl)
ack-step s by (Sealed x zero epoch text) n needs other is now paired =
    let e : Epoch = record { number = 0; entries = []; text = text } in
    let none : (0 + 1) - length (e ∷ []) ≡ s.next - length s.sealed = omega (arith, needs.may.3) in
    (paired, ap (ack_before s.generation) none)
ack-step s by (Sealed x (suc k) epoch text) n needs other is now paired =
    let e : Epoch = record { number = suc k; entries = epoch; text = text } in
    let long = length-append s.sealed (e ∷ []) in
    let as_many : (suc k + 1) - length (s.sealed ++ e ∷ []) ≡ s.next - length s.sealed = omega (arith, long, needs.may.3) in
    (paired, ap (ack_before s.generation) as_many)
ack-step s by (RanAlone epoch) n needs other is now paired = absurd (paired needs.may.1)
ack-step s by (Committed x k text) n needs other is now paired = absurd (other (needs.may.0 ∙ is))
ack-step s by PrimaryFailed n needs other is now paired = (subst (λ m. IsAlone m → ⊥) (sym needs.may.1) (λ a. a), refl)
ack-step s by BackupFailed n needs other is now paired = absurd (paired tt)
ack-step s by (WentLive r) n needs other is now paired = absurd (paired tt)
ack-step s by (Protected b) n needs other is now paired = absurd (omega (arith, needs.may.2.1, is, now))

ack-steps : (s : LogState) (xs : List Step) (n : ℕ) → LegalFrom s xs → steps_by n xs ≡ [] → s.backup ≡ n → (state_after s xs).backup ≡ n
    → (IsAlone (state_after s xs).mode → ⊥) → (IsAlone s.mode → ⊥) × (last_ack (state_after s xs) ≡ last_ack s)
ack-steps s [] n l others is now paired = (paired, refl)
ack-steps s (x ∷ xs) n l others is now paired =
    let t = after_step s x.what in
    let apart = none-first n x xs others in
    let there : t.backup ≡ n = omega (arith, (numbers s x.by x.what l.0).1, (numbers-rise t xs l.1).1, is, now) in
    let rest = ack-steps t xs n l.1 apart.1 there now paired in
    let one = ack-step s x.by x.what n l.0 apart.0 is there rest.0 in
    (one.0, rest.1 ∙ one.1)

pub acks-missed : (h : HistoryState) (old now : List Step) (n : ℕ) (b : Begins old now) (l : LegalSteps h now)
    (own : steps_by n now ≡ steps_by n old) → (state_at h old).backup ≡ n → (state_at h now).backup ≡ n
    → (IsAlone (state_at h now).mode → ⊥) → last_ack (state_at h now) ≡ last_ack (state_at h old)
unfolding state_at
acks-missed h old now n b l own was is paired =
    let s = state_after (start_of h) old in
    let both = same h old now b in
    ap last_ack both
    ∙ (ack-steps s b.0 n (later h old now b l) (none-between n old now b own) was (subst (λ (t : LogState). t.backup ≡ n) both is)
    (subst (λ (t : LogState). IsAlone t.mode → ⊥) both paired)).1
