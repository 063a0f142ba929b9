-- What waits once all that is under way has arrived: only deliveries and drops by the line change it. This is so whatever is marked.
use Rattle.std.proofs.Common.{◌≡◌, ℕ, List, [], ◌∷◌, ◌++◌, map, take, drop, refl, sym, ap, ◌∙◌, subst, append_assoc}
use Rattle.std.proofs.lemmas.List.{append-nil}
use Rattle.pair_history.specs.Entries.{Entry, Arrive}
use Rattle.pair_history.specs.HistoryState.{HistoryState, Waiting, at}
use Rattle.pair_history.specs.Failures.{arrived_numbers, go_live_entries, fail_backup_entries}
use Rattle.pair_history.specs.Order.{AreGuests}
use Rattle.pair_history.specs.Reached.{AreRising}
use Rattle.pair_history.specs.Waits.{AllWait, without_numbers, waits_along, number_along}
use Rattle.pair_history.specs.laws.Waits.{at-waits, at-number, waits-append, arrived_numbers-append, AllWait-second}
use Rattle.pair_history.specs.laws.Waits.{rising-without_numbers}
use Rattle.pair_history.specs.laws.Waits.{waits-guests, number-guests, AreGuests-arrivals, arrived_numbers-arrivals}
use Rattle.pair_history.specs.laws.Waits.{waits-quiet, number-quiet}
use Rattle.pair_history.specs.laws.Waits.{waits-go_live, number-go_live, waits-fail_backup, number-fail_backup}
use Rattle.growing_history.specs.Steps.{What, Added, Sealed, RanAlone, Committed, PrimaryFailed, BackupFailed, WentLive, Protected, Step}
use Rattle.growing_history.specs.Waiting.{taken, StillWait, IsStill}
use Rattle.growing_history.specs.LogState.{LogState, Epoch, LegalSteps, start_of, state_at, after_step, entries_of, under_way}
use Rattle.pair_history.specs.laws.Histories.{guests-append, guests-first}
use Rattle.growing_history.specs.laws.Sealed.{guests-after}

-- what is under way is the guest's
pub legal-guests : (h : HistoryState) (xs : List Step) → LegalSteps h xs → AreGuests (entries_of (state_at h xs).sealed)
unfolding LegalSteps state_at
legal-guests h xs l = guests-after (start_of h) xs l tt

pub way-guests : (s : LogState) → AreGuests (entries_of s.sealed) → AreGuests (under_way s)
way-guests s g = guests-append (entries_of s.sealed) (map Arrive s.handed) g (AreGuests-arrivals s.handed)

-- where the same waits, and the same is under way
pub same-wait : (s t : LogState) → t.history.number ≡ s.history.number → t.history.waiting ≡ s.history.waiting → under_way t ≡ under_way s
    → StillWait s t
same-wait s t number waits way = record {
  number = number;
  rising = λ first end. subst (AreRising first end) (sym waits);
  there = subst (λ (x : List Entry × List Waiting). AllWait (arrived_numbers x.0) x.1) (λ i. (sym way i, sym waits i));
  after =
      at-waits t.history (under_way t)
      ∙ (λ i. waits_along (waits i) (way i))
      ∙ sym (at-waits s.history (under_way s));
}

-- where the history gained entries that take out what the first of what is under way took in
module _ (s t : LogState) (es told : List Entry) (guests : AreGuests es) (there : t.history ≡ at s.history told)
    (waits : waits_along s.history.waiting told ≡ waits_along s.history.waiting es)
    (number : number_along s.history.number told ≡ s.history.number)
    (way : under_way s ≡ es ++ under_way t) where
  now : t.history.waiting ≡ without_numbers (arrived_numbers es) s.history.waiting
  now =
      ap (λ (h : HistoryState). h.waiting) there ∙ at-waits s.history told ∙ waits ∙ waits-guests s.history.waiting es guests

  gained-wait : StillWait s t
  gained-wait = record {
    number = ap (λ (h : HistoryState). h.number) there ∙ at-number s.history told ∙ number;
    rising = λ first end r.
        subst (AreRising first end) (sym now) (rising-without_numbers first end (arrived_numbers es) s.history.waiting r);
    there = λ all.
        subst (AllWait (taken t)) (sym now)
        (AllWait-second (arrived_numbers es) (taken t) s.history.waiting
        (subst (λ ns. AllWait ns s.history.waiting) (ap arrived_numbers way ∙ arrived_numbers-append es (under_way t)) all));
    after =
        at-waits t.history (under_way t)
        ∙ ap (λ (ws : List Waiting). waits_along ws (under_way t))
        (ap (λ (h : HistoryState). h.waiting) there ∙ at-waits s.history told ∙ waits)
        ∙ sym (waits-append s.history.waiting es (under_way t))
        ∙ ap (waits_along s.history.waiting) (sym way)
        ∙ sym (at-waits s.history (under_way s));
  }

first-guests : (es : List Epoch) → AreGuests (entries_of es) → AreGuests (entries_of (take 1 es))
first-guests [] g = tt
first-guests (e ∷ es) g = subst AreGuests (sym (append-nil e.entries)) (guests-first e.entries (entries_of es) g)

committed-way : (es : List Epoch) (later : List Entry)
    → entries_of es ++ later ≡ entries_of (take 1 es) ++ (entries_of (drop 1 es) ++ later)
committed-way [] later = refl
committed-way (e ∷ es) later =
    append_assoc e.entries (entries_of es) later ∙ ap (λ (l : List Entry). l ++ (entries_of es ++ later)) (sym (append-nil e.entries))

pub still-wait : (s : LogState) (w : What) → AreGuests (entries_of s.sealed) → IsStill w → StillWait s (after_step s w)
still-wait s (Added es) g q =
    same-wait s (after_step s (Added es)) (at-number s.history es ∙ number-quiet s.history.number es q)
    (at-waits s.history es ∙ waits-quiet s.history.waiting es q) refl
still-wait s (Sealed x n epoch text) g q = absurd q
still-wait s (RanAlone epoch) g q = absurd q
still-wait s (Committed x n text) g q =
    let es = entries_of (take 1 s.sealed) in
    let own = first-guests s.sealed g in
    gained-wait s (after_step s (Committed x n text)) es es own refl refl (number-guests s.history.number es own)
    (committed-way s.sealed (map Arrive s.handed))
still-wait s PrimaryFailed g q = same-wait s (after_step s PrimaryFailed) refl refl refl
still-wait s BackupFailed g q =
    let es = entries_of s.sealed in
    gained-wait s (after_step s BackupFailed) es (fail_backup_entries s.history es) g refl
    (waits-fail_backup s.history.waiting s.history es)
    (number-fail_backup s.history.number s.history es ∙ number-guests s.history.number es g) refl
still-wait s (WentLive r) g q =
    let es = under_way s in
    let own = way-guests s g in
    gained-wait s (after_step s (WentLive r)) es (go_live_entries s.history es) own refl
    (waits-go_live s.history.waiting s.history es own)
    (number-go_live s.history.number s.history es) (sym (append-nil es))
still-wait s (Protected b) g q = same-wait s (after_step s (Protected b)) refl refl refl

-- WHERE AN EPOCH IS SEALED, before more is handed out: its arrivals are the first of what was handed out, and the others stay
module _ (s t : LogState) (epoch : List Entry) (rest : List ℕ) (guests : AreGuests (entries_of s.sealed)) (own : AreGuests epoch)
    (held : s.handed ≡ arrived_numbers epoch ++ rest) (same : t.history ≡ s.history)
    (way : under_way t ≡ (entries_of s.sealed ++ epoch) ++ map Arrive rest) where
  abbrev es : List Entry
  es = entries_of s.sealed

  sealed-taken : taken t ≡ taken s
  sealed-taken =
      ap arrived_numbers way
      ∙ arrived_numbers-append (es ++ epoch) (map Arrive rest)
      ∙ (λ i. arrived_numbers-append es epoch i ++ arrived_numbers-arrivals rest i)
      ∙ append_assoc (arrived_numbers es) (arrived_numbers epoch) rest
      ∙ ap (λ (ns : List ℕ). arrived_numbers es ++ ns) (sym held ∙ sym (arrived_numbers-arrivals s.handed))
      ∙ sym (arrived_numbers-append es (map Arrive s.handed))

  sealed-are-guests : AreGuests (under_way t)
  sealed-are-guests =
      subst AreGuests (sym way)
      (guests-append (es ++ epoch) (map Arrive rest) (guests-append es epoch guests own) (AreGuests-arrivals rest))

  pub sealed-wait : StillWait s t
  sealed-wait =
      let waits : t.history.waiting ≡ s.history.waiting = ap (λ (h : HistoryState). h.waiting) same in
      record {
        number = ap (λ (h : HistoryState). h.number) same;
        rising = λ first end. subst (AreRising first end) (sym waits);
        there = subst (λ (x : List ℕ × List Waiting). AllWait x.0 x.1) (λ i. (sym sealed-taken i, sym waits i));
        after =
            at-waits t.history (under_way t)
            ∙ waits-guests t.history.waiting (under_way t) sealed-are-guests
            ∙ (λ i. without_numbers (sealed-taken i) (waits i))
            ∙ sym (waits-guests s.history.waiting (under_way s) (way-guests s guests))
            ∙ sym (at-waits s.history (under_way s));
      }
