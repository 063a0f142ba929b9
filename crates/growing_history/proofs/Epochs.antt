-- What an epoch of the runner takes in, and what it makes of the guest.
use Rattle.std.proofs.Common.{◌≡◌, ℕ, List, [], ◌∷◌, ◌++◌, map, refl, ap, ◌∙◌, subst, append_assoc}
use Rattle.guest_rules.specs.Step.{next, sent}
use Rattle.pair_history.specs.Entries.{Entry, Ran, Arrive}
use Rattle.pair_history.specs.HistoryState.{HistoryState, IsFirst, frame_numbered, without_number, with_arrived, at, sent_along}
use Rattle.pair_history.specs.HistoryState as history
use Rattle.pair_history.specs.Order.{AreGuests, NoneTakes}
use Rattle.pair_history.specs.Failures.{arrived_numbers}
use Rattle.growing_history.specs.LogState.{LogState, IsEpoch, entries_of, under_way, sealed_state}
use Rattle.pair_history.specs.laws.Histories.{Legal-append, legal-first, legal-second}
use Rattle.pair_history.specs.laws.{Histories.{guests-append, guests-first}, Waits.arrived_numbers-append}

-- What the guest takes in, in two parts.

takes-append : (n : ℕ) (xs ys : List Entry) → NoneTakes n xs → NoneTakes n ys → NoneTakes n (xs ++ ys)
takes-append n [] ys a b = b
takes-append n (Arrive m ∷ xs) ys a b = (a.0, takes-append n xs ys a.1 b)
takes-append n (other ∷ xs) ys a b = takes-append n xs ys a b

pub takes-first : (n : ℕ) (xs ys : List Entry) → NoneTakes n (xs ++ ys) → NoneTakes n xs
takes-first n [] ys a = tt
takes-first n (Arrive m ∷ xs) ys a = (a.0, takes-first n xs ys a.1)
takes-first n (other ∷ xs) ys a = takes-first n xs ys a

pub takes-second : (n : ℕ) (xs ys : List Entry) → NoneTakes n (xs ++ ys) → NoneTakes n ys
takes-second n [] ys a = a
takes-second n (Arrive m ∷ xs) ys a = takes-second n xs ys a.1
takes-second n (other ∷ xs) ys a = takes-second n xs ys a

-- none of these arrives, so none of the epoch's
takes-epoch : (n : ℕ) (epoch : List Entry) (rest : List ℕ) → NoneTakes n (map Arrive (arrived_numbers epoch ++ rest)) → NoneTakes n epoch
takes-epoch n [] rest a = tt
takes-epoch n (Arrive m ∷ es) rest a = (a.0, takes-epoch n es rest a.1)
takes-epoch n (other ∷ es) rest a = takes-epoch n es rest a

-- A beginning of an epoch is one.
pub epoch-first : (s : LogState) (p q : List Entry) → IsEpoch s (p ++ q) → IsEpoch s p
epoch-first s p q e = (
  guests-first p q e.0,
  (
    arrived_numbers q ++ e.1.0,
    e.1.1 ∙ (ap (λ l. l ++ e.1.0) (arrived_numbers-append p q) ∙ append_assoc (arrived_numbers p) (arrived_numbers q) e.1.0),
  ),
)

-- An epoch is legal where what was handed out can arrive, whatever steps the guest made.
epoch-legal : (epoch : List Entry) (rest : List ℕ) (s t : HistoryState) → AreGuests epoch → s.waiting ≡ t.waiting
    → history.Legal s (map Arrive (arrived_numbers epoch ++ rest)) → history.Legal t epoch
epoch-legal [] rest s t g waits l = tt
epoch-legal (Ran ∷ es) rest s t g waits l = (tt, epoch-legal es rest s (history.after t Ran) g.1 waits l)
epoch-legal (Arrive n ∷ es) rest s t g waits l = (
  subst (IsFirst n) waits l.0,
  epoch-legal es rest (history.after s (Arrive n)) (history.after t (Arrive n)) g.1 (ap (without_number n) waits) l.1,
)
epoch-legal (other ∷ es) rest s t g waits l = absurd g.0

-- What is sealed, and then an epoch.
module _ (s : LogState) (epoch : List Entry) (e : IsEpoch s epoch) where
  abbrev sealed : List Entry
  sealed = entries_of s.sealed

  pub with-epoch-guests : AreGuests sealed → AreGuests (sealed ++ epoch)
  with-epoch-guests g = guests-append sealed epoch g e.0

  -- takes in nothing but what is under way
  pub with-epoch-takes : (n : ℕ) → NoneTakes n (under_way s) → NoneTakes n (sealed ++ epoch)
  with-epoch-takes n a =
      takes-append n sealed epoch (takes-first n sealed (map Arrive s.handed) a)
      (takes-epoch n epoch e.1.0 (subst (λ l. NoneTakes n (map Arrive l)) e.1.1 (takes-second n sealed (map Arrive s.handed) a)))

  -- and is legal where what is under way is
  pub with-epoch-legal : history.Legal s.history (under_way s) → history.Legal s.history (sealed ++ epoch)
  with-epoch-legal way =
      Legal-append s.history sealed epoch (legal-first s.history sealed (map Arrive s.handed) way)
      (epoch-legal epoch e.1.0 (sealed_state s) (sealed_state s) e.0 refl
      (subst (λ l. history.Legal (sealed_state s) (map Arrive l)) e.1.1 (legal-second s.history sealed (map Arrive s.handed) way)))

-- The guest after what it does depends on the guest and on what waits, and on nothing else.
pub same_guest : (es : List Entry) (s t : HistoryState) → AreGuests es → s.guest ≡ t.guest → s.waiting ≡ t.waiting
    → (at s es).guest ≡ (at t es).guest
same_guest [] s t g same waits = same
same_guest (Ran ∷ es) s t g same waits =
    same_guest es (history.after s Ran) (history.after t Ran) g.1 (ap next same) waits
same_guest (Arrive n ∷ es) s t g same waits =
    same_guest es (history.after s (Arrive n)) (history.after t (Arrive n)) g.1
    (λ i. with_arrived (same i) (frame_numbered n (waits i)))
    (ap (without_number n) waits)
same_guest (other ∷ es) s t g same waits = absurd g.0

-- What it sends depends on the guests on the way.
pub same_sent : (es : List Entry) (s t : HistoryState) → AreGuests es
    → ((p q : List Entry) → es ≡ p ++ q → (at s p).guest ≡ (at t p).guest) → sent_along s es ≡ sent_along t es
same_sent [] s t g same = refl
same_sent (Ran ∷ es) s t g same =
    (λ i. sent (same [] (Ran ∷ es) refl i) ++ sent_along (history.after s Ran) es)
    ∙ ap (λ l. sent t.guest ++ l)
    (same_sent es (history.after s Ran) (history.after t Ran) g.1 (λ p q e. same (Ran ∷ p) q (ap (λ l. Ran ∷ l) e)))
same_sent (Arrive n ∷ es) s t g same =
    same_sent es (history.after s (Arrive n)) (history.after t (Arrive n)) g.1
    (λ p q e. same (Arrive n ∷ p) q (ap (λ l. Arrive n ∷ l) e))
same_sent (other ∷ es) s t g same = absurd g.0
