-- In the first generation only the first backup commits, and a commit of a text that was sealed makes no mark.
use Rattle.std.proofs.Common.{◌≡◌, ◌≢◌, ℕ, zero, suc, ◌+◌, ◌≤◌, ◌<◌, List, [], ◌∷◌, ◌++◌, length, drop, Bool, true, false, cond, refl}
use Rattle.std.proofs.Common.{sym, ap, ◌∙◌, subst, arith, append_assoc, eq-eqb}
use Rattle.std.proofs.lemmas.List.{append_cancel_right}
use Rattle.std.specs.Cmp.Lexicographic.{pointwise}
use Rattle.std.specs.Prelude.{nat_eq, ◌==◌}
use Rattle.pair_history.specs.Entries.{Entry}
use Rattle.pair_history.specs.HistoryState.{HistoryState}
use Rattle.growing_history.specs.FirstGeneration.{AreUnmarked, CommitsSealed}
use Rattle.growing_history.specs.LogState.{LogState, Epoch, start_of, first_backup, mark_of, IsFirstSealed, after_step, Needs, state_after}
use Rattle.growing_history.specs.LogState.{LegalFrom, LegalSteps, state_at}
use Rattle.growing_history.specs.Steps.{What, Added, Sealed, RanAlone, Committed, PrimaryFailed, BackupFailed, WentLive, Protected, Step}
use Rattle.growing_history.specs.Steps.{step, Begins, steps_by}
use Rattle.growing_history.specs.laws.Between.{none-first, none-between, same, later}
use Rattle.growing_history.specs.laws.Logs.{state-append, first, second}
use Rattle.growing_history.specs.laws.Prefixes.{steps_by-append}
use Rattle.growing_history.specs.SealedNumbers.{FollowFrom, AreSealed}
use Rattle.growing_history.specs.laws.Sealed.{are-sealed}

-- the backup of the first generation is the first one
record IsFirst (s : LogState) : Type 0 where
  pub some : 1 ≤ s.generation
  pub backup : s.generation ≡ 1 → s.backup ≡ first_backup

first-step : (s : LogState) (by : ℕ) (w : What) → IsFirst s → IsFirst (after_step s w)
first-step s by (WentLive r) h = record { some = omega arith; backup = λ one. absurd (omega (arith, one, h.some)) }
first-step s by (Protected b) h = record { some = omega arith; backup = λ one. absurd (omega (arith, one, h.some)) }
first-step s by another h = record { some = h.some; backup = h.backup }

first-steps : (s : LogState) (xs : List Step) → IsFirst s → IsFirst (state_after s xs)
first-steps s [] h = h
first-steps s (x ∷ xs) h = first-steps (after_step s x.what) xs (first-step s x.by x.what h)

start-first : (h : HistoryState) → IsFirst (start_of h)
start-first h = record { some = omega arith; backup = λ one. refl }

-- generations only rise
rises : (s : LogState) (w : What) → s.generation ≤ (after_step s w).generation
rises s (WentLive r) = omega arith
rises s (Protected b) = omega arith
rises s another = omega arith

all-rise : (s : LogState) (xs : List Step) → s.generation ≤ (state_after s xs).generation
all-rise s [] = omega arith
all-rise s (x ∷ xs) = omega (arith, rises s x.what, all-rise (after_step s x.what) xs)

-- STEPS OF OTHERS

other-marks : (s : LogState) (by : ℕ) (w : What) (n : ℕ) → Needs s (record { by = by; what = w }) → by ≢ n → s.backup ≡ n
    → (after_step s w).marked ≡ s.marked
other-marks s by (Committed g k text) n needs other is = absurd (other (needs.may.0 ∙ is))
other-marks s by another n needs other is = refl

others-mark : (s : LogState) (xs : List Step) → LegalFrom s xs → steps_by first_backup xs ≡ [] → IsFirst s
    → (state_after s xs).generation ≡ 1 → (state_after s xs).marked ≡ s.marked
others-mark s [] l others h one = refl
others-mark s (x ∷ xs) l others h one =
    let t = after_step s x.what in
    let apart = none-first first_backup x xs others in
    let here : s.generation ≡ 1 = omega (arith, h.some, rises s x.what, all-rise t xs, one) in
    others-mark t xs l.1 apart.1 (first-step s x.by x.what h) one
    ∙ other-marks s x.by x.what first_backup l.0 apart.0 (h.backup here)

-- A COMMIT OF WHAT WAS SEALED

-- of these epochs one of that number has that text
abbrev HaveText : ℕ → List ℕ → List Epoch → Type 0
HaveText n text [] = Unit {0}
HaveText n text (e ∷ es) = (e.number ≡ n → e.text ≡ text) × HaveText n text es

have-last : (n : ℕ) (text : List ℕ) (es : List Epoch) (e : Epoch) → HaveText n text es → (e.number ≡ n → e.text ≡ text)
    → HaveText n text (es ++ e ∷ [])
have-last n text [] e h one = (one, tt)
have-last n text (x ∷ es) e h one = (h.0, have-last n text es e h.1 one)

-- those below that number
have-below : (n k : ℕ) (text : List ℕ) (es : List Epoch) → FollowFrom k es → k + length es ≤ n → HaveText n text es
have-below n k text [] f low = tt
have-below n k text (e ∷ es) f low = (λ is. absurd (omega (arith, f.0, is, low)), have-below n (k + 1) text es f.1 (omega (arith, low)))

have-rest : (n : ℕ) (text : List ℕ) (es : List Epoch) → HaveText n text es → HaveText n text (drop 1 es)
have-rest n text [] h = tt
have-rest n text (e ∷ es) h = h.1

-- That text was sealed under this generation and number, and no other was since.
record IsOnly (g n : ℕ) (text : List ℕ) (s : LogState) : Type 0 where
  pub late : g ≤ s.generation
  pub next : s.generation ≡ g → n < s.next
  pub texts : s.generation ≡ g → HaveText n text s.sealed

only-step : (g n : ℕ) (text : List ℕ) (s : LogState) (by : ℕ) (w : What) → Needs s (record { by = by; what = w }) → IsOnly g n text s
    → IsOnly g n text (after_step s w)
only-step g n text s by (Added es) needs h = record { late = h.late; next = h.next; texts = h.texts }
only-step g n text s by (Sealed x zero epoch new) needs h =
    let is : 0 ≡ s.next = needs.may.3 in
    record {
      late = h.late;
      next = λ same. absurd (omega (arith, h.next same, is));
      texts = λ same. absurd (omega (arith, h.next same, is));
    }
only-step g n text s by (Sealed x (suc k) epoch new) needs h =
    let is : suc k ≡ s.next = needs.may.3 in
    record {
      late = h.late;
      next = λ same. omega (arith, h.next same, is);
      texts = λ same.
          have-last n text s.sealed (record { number = suc k; entries = epoch; text = new }) (h.texts same)
          (λ that. absurd (omega (arith, that, h.next same, is)));
    }
only-step g n text s by (RanAlone epoch) needs h = record { late = h.late; next = h.next; texts = h.texts }
only-step g n text s by (Committed x k new) needs h =
    record { late = h.late; next = h.next; texts = λ same. have-rest n text s.sealed (h.texts same) }
only-step g n text s by PrimaryFailed needs h = record { late = h.late; next = h.next; texts = h.texts }
only-step g n text s by BackupFailed needs h = record { late = h.late; next = h.next; texts = λ same. tt }
only-step g n text s by (WentLive r) needs h = record {
  late = omega (arith, h.late);
  next = λ same. absurd (omega (arith, h.late, same));
  texts = λ same. tt;
}
only-step g n text s by (Protected b) needs h = record {
  late = omega (arith, h.late);
  next = λ same. absurd (omega (arith, h.late, same));
  texts = λ same. absurd (omega (arith, h.late, same));
}

only-steps : (g n : ℕ) (text : List ℕ) (s : LogState) (xs : List Step) → LegalFrom s xs → IsOnly g n text s
    → IsOnly g n text (state_after s xs)
only-steps g n text s [] l h = h
only-steps g n text s (x ∷ xs) l h = only-steps g n text (after_step s x.what) xs l.1 (only-step g n text s x.by x.what l.0 h)

sealed-only : (g n : ℕ) (text : List ℕ) (s : LogState) (by : ℕ) (epoch : List Entry)
    → Needs s (record { by = by; what = Sealed g n epoch text }) → AreSealed s → IsOnly g n text (after_step s (Sealed g n epoch text))
sealed-only g zero text s by epoch needs k =
    record { late = omega (arith, needs.may.2); next = λ same. omega arith; texts = λ same. (λ is. refl, tt) }
sealed-only g (suc n) text s by epoch needs k =
    let is : suc n ≡ s.next = needs.may.3 in
    record {
      late = omega (arith, needs.may.2);
      next = λ same. omega arith;
      texts = λ same.
          have-last (suc n) text s.sealed (record { number = suc n; entries = epoch; text = text })
          (have-below (suc n) k.first text s.sealed k.numbers (omega (arith, k.count, is))) (λ is. refl);
    }

itself : (text : List ℕ) → pointwise nat_eq text text ≡ true
itself [] = refl
itself (x ∷ text) = rw (eq-eqb x x refl) (itself text)

no-mark : (n : ℕ) (text : List ℕ) (es : List Epoch) → IsFirstSealed n es → HaveText n text es → mark_of es text ≡ 0
no-mark n text [] is h = absurd is
no-mark n text (e ∷ es) is h = rw (h.0 is) (rw (itself text) refl)

-- of two lists from the start
pub others-unmarked : (h : HistoryState) (old now : List Step) → Begins old now → LegalSteps h now
    → steps_by first_backup now ≡ steps_by first_backup old → AreUnmarked h old → AreUnmarked h now
unfolding LegalSteps state_at
others-unmarked h old now b l own was one =
    let s = state_after (start_of h) old in
    let goes : state_after (start_of h) now ≡ state_after s b.0 = same h old now b in
    let legal : LegalFrom s b.0 = later h old now b l in
    let one' : (state_after s b.0).generation ≡ 1 = ap (λ (t : LogState). t.generation) (sym goes) ∙ one in
    let f : IsFirst s = first-steps (start_of h) old (start-first h) in
    let then : s.generation ≡ 1 = omega (arith, f.some, all-rise s b.0, one') in
    ap (λ (t : LogState). t.marked) goes ∙ others-mark s b.0 legal (none-between first_backup old now b own) f one' ∙ was then

-- A text that was sealed is committed: that makes no mark.
sealed-unmarked : (h : HistoryState) (before later : List Step) (by c g n : ℕ) (epoch : List Entry) (text : List ℕ)
    → LegalSteps h ((before ++ step by (Sealed g n epoch text) ∷ later) ++ step c (Committed g n text) ∷ [])
    → (state_at h ((before ++ step by (Sealed g n epoch text) ∷ later) ++ step c (Committed g n text) ∷ [])).marked
    ≡ (state_at h (before ++ step by (Sealed g n epoch text) ∷ later)).marked
unfolding LegalSteps state_at
sealed-unmarked h before later by c g n epoch text l =
    let start = start_of h in
    let x = step by (Sealed g n epoch text) in
    let y = step c (Committed g n text) in
    let all = before ++ x ∷ later in
    let s = state_after start before in
    let t = state_after start all in
    let legal : LegalFrom start all = first start all (y ∷ []) l in
    let last : Needs t y = (second start all (y ∷ []) l).0 in
    let there : LegalFrom s (x ∷ later) = second start before (x ∷ later) legal in
    let only : IsOnly g n text (state_after (after_step s x.what) later) =
    only-steps g n text (after_step s x.what) later there.1
    (sealed-only g n text s by epoch there.0 (are-sealed h before (first start before (x ∷ later) legal))) in
    let only' : IsOnly g n text t = subst (IsOnly g n text) (sym (state-append start before (x ∷ later))) only in
    let none : mark_of t.sealed text ≡ 0 = no-mark n text t.sealed last.may.3 (only'.texts (sym last.may.2)) in
    ap (λ (u : LogState). u.marked) (state-append start all (y ∷ [])) ∙ omega (arith, none)

-- The first backup's own commit, of a text that was sealed in what it had seen, comes after steps of others.
module _ (h : HistoryState) (old now : List Step) (c : CommitsSealed old now) (l : LegalSteps h now) where
  abbrev x : Step
  x = step first_backup (Committed c.generation c.number c.text)

  abbrev y : Step
  y = step c.by (Sealed c.generation c.number c.epoch c.text)

  abbrev log : List Step
  log = old ++ c.between

  legal : LegalFrom (start_of h) (log ++ x ∷ [])
  unfolding LegalSteps
  legal = subst (LegalFrom (start_of h)) c.is l

  others : steps_by first_backup log ≡ steps_by first_backup old
  others =
      let apart : steps_by first_backup (log ++ x ∷ []) ≡ steps_by first_backup log ++ x ∷ [] =
      steps_by-append first_backup log (x ∷ []) ∙ ap (λ (t : Bool). steps_by first_backup log ++ cond t (x ∷ []) []) (eq-eqb x.by first_backup refl) in
      append_cancel_right (steps_by first_backup log) (steps_by first_backup old) (x ∷ [])
      (sym apart ∙ ap (λ (xs : List Step). steps_by first_backup xs) (sym c.is) ∙ c.own)

  pub own-commit-unmarked : AreUnmarked h old → AreUnmarked h now
  unfolding LegalSteps state_at
  own-commit-unmarked was one =
      let start = start_of h in
      let s = state_after start log in
      let ends : state_after start now ≡ after_step s x.what = ap (state_after start) c.is ∙ state-append start log (x ∷ []) in
      let then : s.generation ≡ 1 = ap (λ (t : LogState). t.generation) (sym ends) ∙ one in
      let none : s.marked ≡ 0 = others-unmarked h old log (c.between, refl) (first start log (x ∷ []) legal) others was then in
      let all = c.later ++ c.between in
      let is : log ≡ c.before ++ y ∷ all = ap (λ (xs : List Step). xs ++ c.between) c.sealed ∙ append_assoc c.before (y ∷ c.later) c.between in
      let there : LegalFrom start ((c.before ++ y ∷ all) ++ x ∷ []) = subst (λ (xs : List Step). LegalFrom start (xs ++ x ∷ [])) is legal in
      let stays = sealed-unmarked h c.before all c.by first_backup c.generation c.number c.epoch c.text there in
      let stays' : (state_after start (log ++ x ∷ [])).marked ≡ s.marked =
      subst (λ (xs : List Step). (state_after start (xs ++ x ∷ [])).marked ≡ (state_after start xs).marked) (sym is) stays in
      ap (λ (xs : List Step). (state_after start xs).marked) c.is ∙ stays' ∙ none

pub none-marked : (h : HistoryState) → AreUnmarked h []
unfolding state_at
none-marked h = λ one. refl
