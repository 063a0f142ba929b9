-- What is sealed: its numbers follow one another, and its entries are the guest's.
use Rattle.std.proofs.Common.{◌≡◌, ℕ, zero, suc, ◌+◌, ◌-◌, List, [], ◌∷◌, ◌++◌, length, drop, refl, sym, ap, ◌∙◌, subst, append_assoc}
use Rattle.std.proofs.Common.{arith, ◌<◌}
use Rattle.std.proofs.lemmas.List.{append-nil, length-append}
use Rattle.failover.specs.declared.mode.Mode.{Mode}
use Rattle.failover.specs.declared.mode.Mode.TheVariants.{Paired, Filling, Alone, Stopped}
use Rattle.pair_history.specs.HistoryState.{HistoryState}
use Rattle.pair_history.specs.Order.{AreGuests}
use Rattle.pair_history.specs.laws.Histories.{guests-append, guests-second}
use Rattle.growing_history.specs.Steps.{What, Added, Sealed, RanAlone, Committed, PrimaryFailed, BackupFailed, WentLive, Protected, Step}
use Rattle.growing_history.specs.LogState.{LogState, Epoch, start_of, IsAlone, HasBackup, IsFirstSealed, MaySeal, after_step, Needs}
use Rattle.growing_history.specs.SealedNumbers.{FollowFrom, AreSealed}
use Rattle.growing_history.specs.LogState.{MayStep, entries_of, state_after, LegalFrom, LegalSteps, state_at}
use Rattle.failover.specs.Modes.{mode_filled}

follow-push : (n : ℕ) (es : List Epoch) (e : Epoch) → FollowFrom n es → e.number ≡ n + length es → FollowFrom n (es ++ e ∷ [])
follow-push n [] e h k = (omega (arith, k), tt)
follow-push n (x ∷ es) e h k = (h.0, follow-push (n + 1) es e h.1 (omega (arith, k)))

-- a mode that has a backup isn't alone, and neither is one that was filled
not-lone : (m : Mode) → HasBackup m → IsAlone m → ⊥
not-lone Paired b a = a
not-lone Filling b a = a
not-lone Alone b a = b
not-lone Stopped b a = a

full-not-lone : (m : Mode) → MaySeal 0 m → IsAlone m → ⊥
full-not-lone Paired b a = a
full-not-lone Filling b a = a
full-not-lone Alone b a = b
full-not-lone Stopped b a = a

filled-not-lone : (m : Mode) → (IsAlone m → ⊥) → IsAlone (mode_filled m) → ⊥
filled-not-lone Paired b a = a
filled-not-lone Filling b a = a
filled-not-lone Alone b a = b tt
filled-not-lone Stopped b a = a

-- without the first
behind-first : (n k : ℕ) (es : List Epoch) → IsFirstSealed k es → FollowFrom n es
    → FollowFrom (n + 1) (drop 1 es) × ((n + 1) + length (drop 1 es) ≡ n + length es)
behind-first n k [] f h = absurd f
behind-first n k (e ∷ es) f h = (h.1, omega arith)

sealed-step : (s : LogState) (by : ℕ) (w : What) → Needs s (record { by = by; what = w }) → AreSealed s → AreSealed (after_step s w)
sealed-step s by (Added es) needs h = record { first = h.first; numbers = h.numbers; count = h.count; alone = h.alone }
sealed-step s by (Sealed g zero epoch text) needs h = record {
  first = 0;
  numbers = (refl, tt);
  count = refl;
  alone = λ a. absurd (full-not-lone s.mode needs.may.1 a);
}
sealed-step s by (Sealed g (suc n) epoch text) needs h =
    let e : Epoch = record { number = suc n; entries = epoch; text = text } in
    let is : suc n ≡ s.next = needs.may.3 in
    record {
      first = h.first;
      numbers = follow-push h.first s.sealed e h.numbers (is ∙ sym h.count);
      count = omega (arith, length-append s.sealed (e ∷ []), h.count, is);
      alone = λ a. absurd (not-lone s.mode needs.may.1 a);
    }
sealed-step s by (RanAlone epoch) needs h = record { first = h.first; numbers = h.numbers; count = h.count; alone = h.alone }
sealed-step s by (Committed g n text) needs h =
    let rest = behind-first h.first n s.sealed needs.may.3 h.numbers in
    record {
      first = h.first + 1;
      numbers = rest.0;
      count = rest.1 ∙ h.count;
      alone = λ a. absurd (filled-not-lone s.mode needs.may.1 a);
    }
sealed-step s by PrimaryFailed needs h = record { first = h.first; numbers = h.numbers; count = h.count; alone = λ a. absurd a }
sealed-step s by BackupFailed needs h = record { first = s.next; numbers = tt; count = omega arith; alone = λ a. refl }
sealed-step s by (WentLive r) needs h = record { first = s.next - length s.sealed; numbers = tt; count = omega arith; alone = λ a. refl }
sealed-step s by (Protected b) needs h =
    let none = h.alone needs.may.1 in
    record {
      first = 0;
      numbers = subst (FollowFrom 0) (sym none) tt;
      count = let long = ap (λ (es : List Epoch). length es) none in omega (arith, long);
      alone = λ a. absurd a;
    }

sealed-steps : (s : LogState) (xs : List Step) → LegalFrom s xs → AreSealed s → AreSealed (state_after s xs)
sealed-steps s [] l h = h
sealed-steps s (x ∷ xs) l h = sealed-steps (after_step s x.what) xs l.1 (sealed-step s x.by x.what l.0 h)

pub are-sealed : (h : HistoryState) (xs : List Step) → LegalSteps h xs → AreSealed (state_at h xs)
unfolding LegalSteps state_at
are-sealed h xs l = sealed-steps (start_of h) xs l (record { first = 1; numbers = tt; count = refl; alone = λ a. refl })

-- the first of them has the number from which so many lead to the next one
pub first-sealed : (h : HistoryState) (xs : List Step) → LegalSteps h xs → (n : ℕ) → n + length (state_at h xs).sealed ≡ (state_at h xs).next
    → n < (state_at h xs).next → IsFirstSealed n (state_at h xs).sealed
first-sealed h xs l n count some =
    let k = are-sealed h xs l in
    by_list (state_at h xs).sealed k.first k.numbers k.count count
  where
    by_list : (es : List Epoch) (first : ℕ) → FollowFrom first es → first + length es ≡ (state_at h xs).next
        → n + length es ≡ (state_at h xs).next → IsFirstSealed n es
    by_list [] first f c d = absurd (omega (arith, d, some))
    by_list (e ∷ es) first f c d = omega (arith, f.0, c, d)

-- WHAT THE GUEST DID is sealed, and nothing else

pub entries-append : (xs ys : List Epoch) → entries_of (xs ++ ys) ≡ entries_of xs ++ entries_of ys
entries-append [] ys = refl
entries-append (e ∷ xs) ys = ap (λ l. e.entries ++ l) (entries-append xs ys) ∙ sym (append_assoc e.entries (entries_of xs) (entries_of ys))

rest-guests : (es : List Epoch) → AreGuests (entries_of es) → AreGuests (entries_of (drop 1 es))
rest-guests [] g = tt
rest-guests (e ∷ es) g = guests-second e.entries (entries_of es) g

pub sealed-guests : (s : LogState) (by : ℕ) (w : What) → MayStep s by w → AreGuests (entries_of s.sealed)
    → AreGuests (entries_of (after_step s w).sealed)
sealed-guests s by (Added es) m g = g
sealed-guests s by (Sealed x zero epoch text) m g = tt
sealed-guests s by (Sealed x (suc n) epoch text) m g =
    let e : Epoch = record { number = suc n; entries = epoch; text = text } in
    subst AreGuests (sym (entries-append s.sealed (e ∷ [])))
    (guests-append (entries_of s.sealed) (epoch ++ []) g (subst AreGuests (sym (append-nil epoch)) m.4.0))
sealed-guests s by (RanAlone epoch) m g = g
sealed-guests s by (Committed x n text) m g = rest-guests s.sealed g
sealed-guests s by PrimaryFailed m g = g
sealed-guests s by BackupFailed m g = tt
sealed-guests s by (WentLive r) m g = tt
sealed-guests s by (Protected b) m g = g

pub guests-after : (s : LogState) (xs : List Step) → LegalFrom s xs → AreGuests (entries_of s.sealed)
    → AreGuests (entries_of (state_after s xs).sealed)
guests-after s [] l g = g
guests-after s (x ∷ xs) l g = guests-after (after_step s x.what) xs l.1 (sealed-guests s x.by x.what l.0.may g)
