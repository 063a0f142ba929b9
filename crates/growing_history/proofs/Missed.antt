-- What happens between two looks of a runner that is live at both and made no step.
use Rattle.std.proofs.Common.{◌≡◌, ◌≢◌, ℕ, List, [], ◌∷◌, ◌++◌, map, take, drop, refl, sym, ap, ◌∙◌, subst, arith}
use Rattle.std.specs.Prelude.{Some}
use Rattle.std.proofs.lemmas.List.{append-nil}
use Rattle.pair_history.specs.Entries.{Frame, Entry, Arrive}
use Rattle.pair_history.specs.HistoryState.{HistoryState, at, sent_along, frame_numbered}
use Rattle.pair_history.specs.HistoryState as history
use Rattle.pair_history.specs.Order.{AreGuests, NoneTakes}
use Rattle.pair_history.specs.Failures.{all_land}
use Rattle.growing_history.specs.Steps.{What, Added, Sealed, RanAlone, Committed, PrimaryFailed, BackupFailed, WentLive, Protected, Step}
use Rattle.growing_history.specs.Steps.{Begins, steps_by}
use Rattle.growing_history.specs.LogState.{LogState, Epoch, start_of, entries_of, under_way, sealed_state, IsEpoch, after_step, Needs}
use Rattle.growing_history.specs.LogState.{state_after, LegalFrom, LegalSteps, state_at}
use Rattle.growing_history.specs.laws.Between.{none-first, none-between, same, earlier, later}
use Rattle.pair_history.specs.laws.Histories.{at-append, legal-first, legal-second}
use Rattle.growing_history.specs.laws.Logs.{stands, marked, marks-stay}
use Rattle.growing_history.specs.laws.Logs.{numbers, numbers-rise, lawful, way-after}
use Rattle.growing_history.proofs.Epochs.{takes-first, takes-second, epoch-first, with-epoch-guests, with-epoch-takes, with-epoch-legal}
use Rattle.growing_history.proofs.Epochs.{same_guest, same_sent}
use Rattle.growing_history.specs.laws.LinesFirst.{GoesFirst, lines-first, lines-guest, frame-stays}
use Rattle.pair_history.specs.laws.Landings.{landings-unmoved}
use Rattle.growing_history.specs.laws.Sealed.{sealed-guests}
use Rattle.growing_history.specs.laws.Sealed.{guests-after}

-- a commit moves the first sealed epoch to the history
committed-state : (h : HistoryState) (es : List Epoch) → at (at h (entries_of (take 1 es))) (entries_of (drop 1 es)) ≡ at h (entries_of es)
committed-state h [] = refl
committed-state h (e ∷ es) = ap (λ l. at (at h l) (entries_of es)) (append-nil e.entries) ∙ sym (at-append h e.entries (entries_of es))

-- What was handed out stays so.
handed-step : (s : LogState) (by : ℕ) (w : What) (n : ℕ) → Needs s (record { by = by; what = w }) → by ≢ n → s.runner ≡ n
    → (after_step s w).runner ≡ n → (after_step s w).handed ≡ s.handed
handed-step s by (Sealed x k epoch text) n needs other is now = absurd (other (needs.may.0 ∙ is))
handed-step s by (RanAlone epoch) n needs other is now = absurd (other (needs.may.0 ∙ is))
handed-step s by (WentLive r) n needs other is now = absurd (omega (arith, needs.may.2.0, is, now))
handed-step s by another n needs other is now = refl

-- What a live runner goes on with, unless a commit is marked: each epoch makes the guest that it made, and each frame that was handed
-- out waits where it waited.
pub record Keeps (s t : LogState) : Type 0 where
  pub guest : (epoch : List Entry) → IsEpoch s epoch → (at (sealed_state t) epoch).guest ≡ (at (sealed_state s) epoch).guest
  pub frames : (before later : List ℕ) (m : ℕ) (f : Frame) → s.handed ≡ before ++ m ∷ later
      → frame_numbered m (sealed_state s).waiting ≡ Some f → frame_numbered m (sealed_state t).waiting ≡ Some f

-- where the sealed state is the same
same-keeps : (s t : LogState) → sealed_state t ≡ sealed_state s → Keeps s t
same-keeps s t same = record {
  guest = λ epoch e. ap (λ (h : HistoryState). (at h epoch).guest) same;
  frames = λ before later m f held waits. ap (λ (h : HistoryState). frame_numbered m h.waiting) same ∙ waits;
}

-- where its guest and what waits there are
near-keeps : (s t : LogState) → (sealed_state t).guest ≡ (sealed_state s).guest → (sealed_state t).waiting ≡ (sealed_state s).waiting
    → Keeps s t
near-keeps s t guest waits = record {
  guest = λ epoch e. same_guest epoch (sealed_state t) (sealed_state s) e.0 guest waits;
  frames = λ before later m f held is. ap (frame_numbered m) waits ∙ is;
}

-- a drop that is known is of no frame that was handed out
not-handed : (m n : ℕ) (before later : List ℕ) → NoneTakes m (map Arrive (before ++ n ∷ later)) → n ≢ m
not-handed m n [] later a = a.0
not-handed m n (k ∷ before) later a = not-handed m n before later a.1

-- where clients called, or what was on its way landed or was dropped
added-keeps : GoesFirst → (s : LogState) (by : ℕ) (es : List Entry) → Needs s (record { by = by; what = Added es })
    → AreGuests (entries_of s.sealed) → history.Legal s.history (under_way s) → s.marked ≡ 0 → Keeps s (after_step s (Added es))
added-keeps go s by es needs g way none =
    let h = s.history in
    let sealed = entries_of s.sealed in
    let front = legal-first h es (under_way (after_step s (Added es))) (needs.lawful none) in
    record {
      guest = λ epoch e.
          ap (λ (x : HistoryState). x.guest) (sym (at-append (at h es) sealed epoch))
          ∙ (lines-guest (under_way s) (sealed ++ epoch) (with-epoch-takes s epoch e) go by es h (with-epoch-guests s epoch e g)
          needs.may (needs.known none) front (with-epoch-legal s epoch e way)
          ∙ ap (λ (x : HistoryState). x.guest) (at-append h sealed epoch));
      frames = λ before later m f held waits.
          ap (λ (x : HistoryState). frame_numbered m x.waiting)
          (lines-first (under_way s) sealed (λ k. takes-first k sealed (map Arrive s.handed)) go by es h g needs.may (needs.known none)
          front (legal-first h sealed (map Arrive s.handed) way))
          ∙ frame-stays (under_way s) m f
          (λ k a. not-handed k m before later
          (subst (λ l. NoneTakes k (map Arrive l)) held (takes-second k sealed (map Arrive s.handed) a)))
          by es h (sealed_state s) needs.may (needs.known none) waits;
    }

-- one step of another
step-keeps : GoesFirst → (s : LogState) (by : ℕ) (w : What) (n : ℕ) → Needs s (record { by = by; what = w })
    → AreGuests (entries_of s.sealed) → history.Legal s.history (under_way s) → s.marked ≡ 0 → by ≢ n → s.runner ≡ n
    → (after_step s w).runner ≡ n → Keeps s (after_step s w)
step-keeps go s by (Added es) n needs g way none other is now = added-keeps go s by es needs g way none
step-keeps go s by (Sealed x k epoch text) n needs g way none other is now = absurd (other (needs.may.0 ∙ is))
step-keeps go s by (RanAlone epoch) n needs g way none other is now = absurd (other (needs.may.0 ∙ is))
step-keeps go s by (Committed x k text) n needs g way none other is now =
    same-keeps s (after_step s (Committed x k text)) (committed-state s.history s.sealed)
step-keeps go s by PrimaryFailed n needs g way none other is now = same-keeps s (after_step s PrimaryFailed) refl
step-keeps go s by BackupFailed n needs g way none other is now =
    let far = sealed_state s in
    let apart = at-append s.history (entries_of s.sealed) (all_land far) in
    let leave = landings-unmoved far.boxes far.out far in
    near-keeps s (after_step s BackupFailed) (ap (λ (h : HistoryState). h.guest) apart ∙ leave.0)
    (ap (λ (h : HistoryState). h.waiting) apart ∙ leave.1)
step-keeps go s by (WentLive r) n needs g way none other is now = absurd (omega (arith, needs.may.2.0, is, now))
step-keeps go s by (Protected b) n needs g way none other is now = same-keeps s (after_step s (Protected b)) refl

-- Many steps.

-- a runner that is live before the steps and after them is live after the first
still-live : (s : LogState) (x : Step) (xs : List Step) (n : ℕ) → LegalFrom s (x ∷ xs) → s.runner ≡ n
    → (state_after s (x ∷ xs)).runner ≡ n → (after_step s x.what).runner ≡ n
still-live s x xs n l is now = omega (arith, (numbers s x.by x.what l.0).0, (numbers-rise (after_step s x.what) xs l.1).0, is, now)

handed-steps : (s : LogState) (xs : List Step) (n : ℕ) → LegalFrom s xs → steps_by n xs ≡ [] → s.runner ≡ n
    → (state_after s xs).runner ≡ n → (state_after s xs).handed ≡ s.handed
handed-steps s [] n l others is now = refl
handed-steps s (x ∷ xs) n l others is now =
    let apart = none-first n x xs others in
    let there = still-live s x xs n l is now in
    handed-steps (after_step s x.what) xs n l.1 apart.1 there now ∙ handed-step s x.by x.what n l.0 apart.0 is there

steps-keep : GoesFirst → (s : LogState) (xs : List Step) (n : ℕ) → LegalFrom s xs → AreGuests (entries_of s.sealed)
    → history.Legal s.history (under_way s) → (state_after s xs).marked ≡ 0 → steps_by n xs ≡ [] → s.runner ≡ n
    → (state_after s xs).runner ≡ n → Keeps s (state_after s xs)
steps-keep go s [] n l g way none others is now = same-keeps s s refl
steps-keep go s (x ∷ xs) n l g way none others is now =
    let t = after_step s x.what in
    let apart = none-first n x xs others in
    let unmarked : s.marked ≡ 0 = omega (arith, marked s x.what, marks-stay t xs, none) in
    let there = still-live s x xs n l is now in
    let held = handed-step s x.by x.what n l.0 apart.0 is there in
    let one = step-keeps go s x.by x.what n l.0 g way unmarked apart.0 is there in
    let rest = steps-keep go t xs n l.1 (sealed-guests s x.by x.what l.0.may g) (way-after s x l.0 unmarked) none apart.1 there now in
    record {
      guest = λ epoch e. rest.guest epoch (e.0, (e.1.0, held ∙ e.1.1)) ∙ one.guest epoch e;
      frames = λ before later m f h waits. rest.frames before later m f (held ∙ h) (one.frames before later m f h waits);
    }

-- What the law says, of two lists from the start.
module _ (h : HistoryState) (old now : List Step) (n : ℕ) (b : Begins old now) (l : LegalSteps h now)
    (own : steps_by n now ≡ steps_by n old) where
  pub handed-stays : (state_at h old).runner ≡ n → (state_at h now).runner ≡ n → (state_at h now).handed ≡ (state_at h old).handed
  unfolding state_at
  handed-stays was is =
      let s = state_after (start_of h) old in
      ap (λ (t : LogState). t.handed) (same h old now b)
      ∙ handed-steps s b.0 n (later h old now b l) (none-between n old now b own) was
      (subst (λ (t : LogState). t.runner ≡ n) (same h old now b) is)

  pub keeps-all : GoesFirst → (state_at h old).runner ≡ n → (state_at h now).runner ≡ n → (state_at h now).marked ≡ 0
      → Keeps (state_at h old) (state_at h now)
  unfolding state_at
  keeps-all go was is none =
      let s = state_after (start_of h) old in
      let both = same h old now b in
      let before = earlier h old now b l in
      let none' : (state_after s b.0).marked ≡ 0 = subst (λ (t : LogState). t.marked ≡ 0) both none in
      let unmarked : s.marked ≡ 0 = omega (arith, marks-stay s b.0, none') in
      let way : history.Legal s.history (under_way s) = subst (λ g. history.Legal g (under_way s)) (sym (stands (start_of h) old))
      (legal-second h _ (under_way s) (lawful (start_of h) old before unmarked tt)) in
      subst (Keeps s) (sym both)
      (steps-keep go s b.0 n (later h old now b l) (guests-after (start_of h) old before tt) way none' (none-between n old now b own) was
      (subst (λ (t : LogState). t.runner ≡ n) both is))

  pub epochs-stay : GoesFirst → (state_at h old).runner ≡ n → (state_at h now).runner ≡ n → (state_at h now).marked ≡ 0
      → (epoch : List Entry) → IsEpoch (state_at h old) epoch
      → ((at (sealed_state (state_at h now)) epoch).guest ≡ (at (sealed_state (state_at h old)) epoch).guest)
      × (sent_along (sealed_state (state_at h now)) epoch ≡ sent_along (sealed_state (state_at h old)) epoch)
  epochs-stay go was is none epoch e =
      let keeps = keeps-all go was is none in (
        keeps.guest epoch e,
        same_sent epoch (sealed_state (state_at h now)) (sealed_state (state_at h old)) e.0
            (λ p q is. keeps.guest p (epoch-first (state_at h old) p q (subst (IsEpoch (state_at h old)) is e))),
      )
