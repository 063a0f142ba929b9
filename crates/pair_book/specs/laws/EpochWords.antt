-- The epoch of a runner, as what runs at the book and as what was handed out say it; and what waits where it enters the history.
use Rattle.std.proofs.Common.{◌≡◌, ℕ, zero, suc, List, [], ◌∷◌, ◌++◌, length, map, take, drop, replicate, refl, sym, ap, ◌∙◌}
use Rattle.std.proofs.Common.{subst}
use Rattle.std.proofs.lemmas.List.{append-nil, take-append-drop}
use Rattle.pair_history.specs.Entries.{Entry, Arrive, Ran}
use Rattle.pair_history.specs.HistoryState.{HistoryState, Waiting, at}
use Rattle.pair_history.specs.Failures.{arrived_numbers, fail_backup_entries}
use Rattle.pair_history.specs.Order.{AreGuests}
use Rattle.pair_history.specs.Reached.{AreRising}
use Rattle.pair_history.specs.Waits.{AllWait, without_numbers, waits_along}
use Rattle.pair_history.specs.laws.Waits.{at-waits, at-number, arrived_numbers-append, AllWait-second, rising-without_numbers}
use Rattle.pair_history.specs.laws.Waits.{without_numbers-append, waits-guests, number-guests, AreGuests-arrivals}
use Rattle.pair_history.specs.laws.Waits.{arrived_numbers-arrivals}
use Rattle.pair_history.specs.laws.Waits.{waits-fail_backup, number-fail_backup}
use Rattle.pair_record.specs.EpochActs.{up_to, behind, guest_epoch}
use Rattle.growing_history.specs.LogState.{LogState, IsEpoch, entries_of, under_way}
use Rattle.pair_history.specs.laws.Histories.{guests-append}
use Rattle.growing_history.specs.Waiting.{StillWait, taken}
use Rattle.pair_book.specs.Settled.{epoch_of}

up_to-arrivals : (n : ℕ) (ns : List ℕ) → up_to n (map Arrive ns) ≡ map Arrive (take n ns)
up_to-arrivals zero ns = refl
up_to-arrivals (suc n) [] = refl
up_to-arrivals (suc n) (k ∷ ns) = ap (λ l. Arrive k ∷ l) (up_to-arrivals n ns)

pub behind-arrivals : (n : ℕ) (ns : List ℕ) → behind n (map Arrive ns) ≡ map Arrive (drop n ns)
behind-arrivals zero ns = refl
behind-arrivals (suc n) [] = refl
behind-arrivals (suc n) (k ∷ ns) = behind-arrivals n ns

steps-guests : (n : ℕ) → AreGuests (replicate n Ran)
steps-guests zero = tt
steps-guests (suc n) = (tt, steps-guests n)

steps-arrived : (n : ℕ) → arrived_numbers (replicate n Ran) ≡ []
steps-arrived zero = refl
steps-arrived (suc n) = steps-arrived n

drop-taken : (n : ℕ) (ns : List ℕ) → drop (length (take n ns)) ns ≡ drop n ns
drop-taken zero ns = refl
drop-taken (suc n) [] = refl
drop-taken (suc n) (k ∷ ns) = drop-taken n ns

module _ (handed : List ℕ) (arrivals steps : ℕ) where
  abbrev own : List Entry
  own = epoch_of handed arrivals steps

  pub own-guests : AreGuests own
  own-guests = guests-append (map Arrive (take arrivals handed)) (replicate steps Ran) (AreGuests-arrivals (take arrivals handed)) (steps-guests steps)

  pub own-arrived : arrived_numbers own ≡ take arrivals handed
  own-arrived =
      arrived_numbers-append (map Arrive (take arrivals handed)) (replicate steps Ran)
      ∙ (λ i. arrived_numbers-arrivals (take arrivals handed) i ++ steps-arrived steps i)
      ∙ append-nil (take arrivals handed)

  pub own-epoch : (s : LogState) → s.handed ≡ handed → IsEpoch s own
  own-epoch s same = (
    own-guests,
    (drop arrivals handed, same ∙ sym (take-append-drop arrivals handed) ∙ ap (λ l. l ++ drop arrivals handed) (sym own-arrived)),
  )

  module _ (running : List Entry) (is : running ≡ map Arrive handed) where
    pub epoch-is : guest_epoch arrivals steps running ≡ own
    epoch-is = ap (guest_epoch arrivals steps) is ∙ ap (λ l. l ++ replicate steps Ran) (up_to-arrivals arrivals handed)

    pub rest-is : behind arrivals running ≡ map Arrive (drop (length (arrived_numbers (guest_epoch arrivals steps running))) handed)
    rest-is =
        ap (behind arrivals) is
        ∙ behind-arrivals arrivals handed
        ∙ ap (map Arrive) (sym (drop-taken arrivals handed))
        ∙ ap (λ (l : List ℕ). map Arrive (drop (length l) handed)) (sym (ap arrived_numbers epoch-is ∙ own-arrived))

    pub epoch-guests : AreGuests (guest_epoch arrivals steps running)
    epoch-guests = subst AreGuests (sym epoch-is) own-guests

    pub is-epoch : (s : LogState) → s.handed ≡ handed → IsEpoch s (guest_epoch arrivals steps running)
    is-epoch s same = subst (IsEpoch s) (sym epoch-is) (own-epoch s same)

    -- what was handed out, in two parts
    pub handed-parts : handed ≡ arrived_numbers (guest_epoch arrivals steps running)
        ++ drop (length (arrived_numbers (guest_epoch arrivals steps running))) handed
    handed-parts =
        let arrived : arrived_numbers (guest_epoch arrivals steps running) ≡ take arrivals handed = ap arrived_numbers epoch-is ∙ own-arrived in
        sym (take-append-drop arrivals handed)
        ∙ (λ i. sym arrived i ++ (sym (drop-taken arrivals handed) ∙ ap (λ (l : List ℕ). drop (length l) handed) (sym arrived)) i)

-- WHERE AN EPOCH ENTERS THE HISTORY and all lands, before more is handed out, and nothing is sealed before or after
module _ (s t : LogState) (epoch : List Entry) (rest : List ℕ) (none : entries_of s.sealed ≡ []) (none' : entries_of t.sealed ≡ [])
    (own : AreGuests epoch) (held : s.handed ≡ arrived_numbers epoch ++ rest) (stay : t.handed ≡ rest)
    (there : t.history ≡ at s.history (fail_backup_entries s.history epoch)) where
  way : under_way s ≡ map Arrive s.handed
  way = ap (λ (l : List Entry). l ++ map Arrive s.handed) none

  way' : under_way t ≡ map Arrive rest
  way' = (λ i. none' i ++ map Arrive (stay i))

  s-taken : taken s ≡ arrived_numbers epoch ++ rest
  s-taken = ap arrived_numbers way ∙ arrived_numbers-arrivals s.handed ∙ held

  t-taken : taken t ≡ rest
  t-taken = ap arrived_numbers way' ∙ arrived_numbers-arrivals rest

  now : t.history.waiting ≡ without_numbers (arrived_numbers epoch) s.history.waiting
  now =
      ap (λ (h : HistoryState). h.waiting) there
      ∙ at-waits s.history (fail_backup_entries s.history epoch)
      ∙ waits-fail_backup s.history.waiting s.history epoch
      ∙ waits-guests s.history.waiting epoch own

  pub entered-wait : StillWait s t
  entered-wait = record {
    number =
        ap (λ (h : HistoryState). h.number) there
        ∙ at-number s.history (fail_backup_entries s.history epoch)
        ∙ number-fail_backup s.history.number s.history epoch
        ∙ number-guests s.history.number epoch own;
    rising = λ first end r.
        subst (AreRising first end) (sym now) (rising-without_numbers first end (arrived_numbers epoch) s.history.waiting r);
    there = λ all.
        subst (λ (x : List ℕ × List Waiting). AllWait x.0 x.1) (λ i. (sym t-taken i, sym now i))
        (AllWait-second (arrived_numbers epoch) rest s.history.waiting
        (subst (λ ns. AllWait ns s.history.waiting) s-taken all));
    after =
        at-waits t.history (under_way t)
        ∙ ap (waits_along t.history.waiting) way'
        ∙ waits-guests t.history.waiting (map Arrive rest) (AreGuests-arrivals rest)
        ∙ (λ i. without_numbers (arrived_numbers-arrivals rest i) (now i))
        ∙ sym (without_numbers-append (arrived_numbers epoch) rest s.history.waiting)
        ∙ ap (λ ns. without_numbers ns s.history.waiting) (sym (held'))
        ∙ sym (waits-guests s.history.waiting (map Arrive s.handed) (AreGuests-arrivals s.handed))
        ∙ ap (waits_along s.history.waiting) (sym way)
        ∙ sym (at-waits s.history (under_way s));
  }
    where
      held' : arrived_numbers (map Arrive s.handed) ≡ arrived_numbers epoch ++ rest
      held' = arrived_numbers-arrivals s.handed ∙ held
