-- What clients and their lines do can come before what the guest does.
use Rattle.std.proofs.Common.{◌≡◌, ℕ, ◌+◌, ◌-◌, ◌<◌, ◌≤◌, List, [], ◌∷◌, ◌++◌, length, refl, sym, ◌∙◌}
use Rattle.std.proofs.Common.{arith}
use Rattle.std.proofs.lemmas.Bool.Decides.{nat_tests}
use Rattle.std.proofs.lemmas.List.{length-append, length-set, take-append-le}
use Rattle.guest_rules.specs.Step.{sent}
use Rattle.frame_ports.specs.Addresses.{targets_of}
use Rattle.frame_ports.specs.Lands.{list_of}
use Rattle.pair_history.specs.Entries.{Frame, Entry, Ran, Arrive, Delivered, Refused, DropIn, Land, DropOut, Took}
use Rattle.pair_history.specs.HistoryState.{HistoryState, Waiting, IsFirst, out_of, out_without, at, after, Allows, Legal}
use Rattle.pair_history.specs.Order.{IsGuests, AreGuests, IsReady}
use Rattle.pair_history.specs.laws.Leaving.{out_of-append}
use Rattle.pair_history.specs.laws.Waiting.{IsFirst-more, frame_numbered-more, first-waits, found-without, without-swaps, IsFirst-without}

-- what is sent later goes behind what is on its way
out_without-more : (c place : ℕ) (ps qs : List (ℕ × Frame)) → place < length (out_of c ps)
    → out_without c place (ps ++ qs) ≡ out_without c place ps ++ qs
out_without-more c place [] qs l = absurd (omega arith)
out_without-more c place (p ∷ ps) qs l = let more = λ (k : ℕ). out_without-more c k ps qs in grind (arith, nat_tests)

-- two entries change places: the guest's is still allowed, and the state after both is the same
abbrev Swaps : HistoryState → Entry → List Entry → Entry → Type 0
Swaps s g es e = Allows (after s e) g × (after (after s e) g ≡ after (after s g) e) × IsReady (after s g) es e

module _ (s : HistoryState) where
  -- the frames that the step sends
  abbrev new : List (ℕ × Frame)
  new = targets_of (length s.boxes) (sent s.guest)

  more_out : (c : ℕ) → length (out_of c (s.out ++ new)) ≡ length (out_of c s.out) + length (out_of c new)
  more_out c = rw (out_of-append c s.out new, length-append)

  landing-swaps : (c : ℕ) → 0 < length (out_of c s.out) → after (after s (Land c)) Ran ≡ after (after s Ran) (Land c)
  landing-swaps c r =
      let some : 1 ≤ length (out_of c s.out) = omega arith in
      rw (length-set, out_without-more c 0 s.out new r, out_of-append c s.out new, take-append-le 1 (out_of c s.out) (out_of c new) some)

  drop-swaps : (c place : ℕ) → place < length (list_of s.boxes c) + length (out_of c s.out)
      → after (after s (DropOut c place)) Ran ≡ after (after s Ran) (DropOut c place)
  drop-swaps c place r =
      let later = out_without-more c (place - length (list_of s.boxes c)) s.out new in
      grind (arith, nat_tests, length-set, later)

  step-swaps : (es : List Entry) (e : Entry) → IsReady s (Ran ∷ es) e → Swaps s Ran es e
  step-swaps es (Delivered c f n) r = (tt, refl, tt)
  step-swaps es (Refused c f) r = (tt, refl, tt)
  step-swaps es (DropIn n) r = (tt, refl, r)
  step-swaps es (Took c answer) r = (tt, rw length-set, tt)
  step-swaps es (Land c) r = (tt, landing-swaps c r, let n = more_out c in omega arith)
  step-swaps es (DropOut c place) r = (tt, drop-swaps c place r, let n = more_out c in omega arith)
  step-swaps es other r = absurd r

  arrival-swaps : (n : ℕ) (es : List Entry) (e : Entry) → IsFirst n s.waiting → IsReady s (Arrive n ∷ es) e → Swaps s (Arrive n) es e
  arrival-swaps n es (DropIn m) h r = (
    IsFirst-without n m s.waiting r.2.0 h,
    rw (found-without n m s.waiting r.2.0, without-swaps n m s.waiting),
    (r.0, found-without m n s.waiting (λ (k : m ≡ n). r.2.0 (sym k)) ∙ r.1, r.2.1),
  )
  arrival-swaps n es (Delivered c f m) h r =
      let new : List Waiting = record { number = m; client = c; frame = f } ∷ [] in
      let waits = first-waits n s.waiting h in
      let still = frame_numbered-more n waits.0 s.waiting new waits.1 in
      (IsFirst-more n s.waiting new h, rw (still.0, still.1, waits.1), tt)
  arrival-swaps n es (Refused c f) h r = (h, refl, tt)
  arrival-swaps n es (Land c) h r = (h, refl, r)
  arrival-swaps n es (DropOut c place) h r = (h, refl, r)
  arrival-swaps n es (Took c answer) h r = (h, refl, tt)
  arrival-swaps n es other h r = absurd r

swaps : (s : HistoryState) (g : Entry) (es : List Entry) (e : Entry) → IsGuests g → Allows s g → IsReady s (g ∷ es) e → Swaps s g es e
swaps s Ran es e k a r = step-swaps s es e r
swaps s (Arrive n) es e k a r = arrival-swaps s n es e a r
swaps s other es e k a r = absurd k

pub goes_first : (s : HistoryState) (es : List Entry) (e : Entry) → AreGuests es → Legal s es → IsReady s es e
    → Legal (after s e) es × (at (after s e) es ≡ after (at s es) e)
goes_first s [] e k legal r = (tt, refl)
goes_first s (g ∷ es) e k legal r =
    let one = swaps s g es e k.0 legal.0 r in
    let more = goes_first (after s g) es e k.1 legal.1 one.2 in
    ((one.0, rw one.1 more.0), rw one.1 more.1)
