-- What kept entries took in is dropped, by rising number: that leaves what the kept entries leave.
use Rattle.std.proofs.Common.{◌≡◌, ℕ, zero, suc, ◌+◌, List, [], ◌∷◌, map, refl, ◌∙◌, arith}
use Rattle.std.specs.List.Sorted.{IsStrictlyIncreasing}
use Rattle.std.proofs.lemmas.Bool.Decides.{nat_tests}
use Rattle.pair_history.specs.Entries.{Entry, Ran, Arrive, DropIn}
use Rattle.pair_history.specs.HistoryState.{HistoryState, Waiting, without_number, at, after, Legal}
use Rattle.pair_history.specs.Order.{AreGuests}
use Rattle.pair_history.specs.Reached.{AreRising}
pub use Rattle.pair_history.specs.Waits.{without_numbers, AllWait}
use Rattle.pair_history.specs.Failures.{arrived_numbers, put_rising, rising, drops_of_taken_in}
use Rattle.pair_history.specs.laws.Waiting.{first-waits, AreRising-without, found-without, without-swaps, gone}
use Rattle.pair_history.specs.laws.Sorted.{Climb, Climb-rising}
pub use Rattle.pair_history.specs.laws.Sorted.{IsPermutation-rising}
use Rattle.pair_history.specs.laws.Waits.{without_numbers-rising}

-- They leave in any order, and in the rising one.

AllWait-swap : (n m : ℕ) (ns : List ℕ) (ws : List Waiting) → AllWait (n ∷ m ∷ ns) ws → AllWait (m ∷ n ∷ ns) ws
AllWait-swap n m ns ws h = grind (arith, nat_tests, found-without m n ws, found-without n m ws, without-swaps m n ws)

AllWait-put : (n : ℕ) (ns : List ℕ) (ws : List Waiting) → AllWait (n ∷ ns) ws → AllWait (put_rising n ns) ws
AllWait-put n [] ws h = h
AllWait-put n (m ∷ ns) ws h =
    let other = AllWait-swap n m ns ws h in
    let later = AllWait-put n ns (without_number m ws) other.1 in
    grind (arith, nat_tests)

AllWait-rising : (ns : List ℕ) (ws : List Waiting) → AllWait ns ws → AllWait (rising ns) ws
AllWait-rising [] ws h = h
AllWait-rising (n ∷ ns) ws h = AllWait-put n (rising ns) ws (h.0, AllWait-rising ns (without_number n ws) h.1)

-- Kept entries take in what waits, and leave the rest; dropping what they took in leaves the same.

abbrev pub TakesIn : List Waiting → List Waiting → List ℕ → Type 0
TakesIn ws left ns = AllWait ns ws × (left ≡ without_numbers ns ws)

kept_take_in : (s : HistoryState) (kept : List Entry) → AreGuests kept → Legal s kept
    → TakesIn s.waiting (at s kept).waiting (arrived_numbers kept)
kept_take_in s [] k h = (tt, refl)
kept_take_in s (Ran ∷ es) k h = kept_take_in (after s Ran) es k.1 h.1
kept_take_in s (Arrive n ∷ es) k h =
    let more = kept_take_in (after s (Arrive n)) es k.1 h.1 in
    ((first-waits n s.waiting h.0, more.0), more.1)
kept_take_in s (other ∷ es) k h = absurd k.0

-- kept entries leave the clients' boxes as they are
pub kept_boxes : (s : HistoryState) (kept : List Entry) → AreGuests kept → (at s kept).boxes ≡ s.boxes
kept_boxes s [] k = refl
kept_boxes s (Ran ∷ es) k = kept_boxes (after s Ran) es k.1
kept_boxes s (Arrive n ∷ es) k = kept_boxes (after s (Arrive n)) es k.1
kept_boxes s (other ∷ es) k = absurd k.0

pub at-drops_in : (s : HistoryState) (ns : List ℕ) → at s (map DropIn ns) ≡ record s { waiting = without_numbers ns s.waiting }
at-drops_in s [] = refl
at-drops_in s (n ∷ ns) = at-drops_in (after s (DropIn n)) ns

Legal-drops_in : (s : HistoryState) (ns : List ℕ) → AllWait ns s.waiting → Legal s (map DropIn ns)
Legal-drops_in s [] h = tt
Legal-drops_in s (n ∷ ns) h = (h.0, Legal-drops_in (after s (DropIn n)) ns h.1)

pub taken_in_dropped : (s : HistoryState) (kept : List Entry) → AreGuests kept → Legal s kept
    → Legal s (drops_of_taken_in kept) × (at s (drops_of_taken_in kept) ≡ record s { waiting = (at s kept).waiting })
taken_in_dropped s kept k legal =
    let ns = arrived_numbers kept in
    let took = kept_take_in s kept k legal in (
      Legal-drops_in s (rising ns) (AllWait-rising ns s.waiting took.0),
      at-drops_in s (rising ns) ∙ rw (took.1, without_numbers-rising ns s.waiting),
    )

-- numbers that don't fall rise where each waits once those before it have left
rise : (a first end : ℕ) (ns : List ℕ) (ws : List Waiting) → Climb a ns → AreRising first end ws → AllWait ns ws → IsStrictlyIncreasing ns
rise a first end [] ws c h w k l = absurd (omega arith)
rise a first end (n ∷ []) ws c h w k l = absurd (omega arith)
rise a first end (n ∷ m ∷ ns) ws c h w zero l = grind (arith, gone n first end ws)
rise a first end (n ∷ m ∷ ns) ws c h w (suc k) l =
    let more = rise n first end (m ∷ ns) (without_number n ws) c.1 (AreRising-without n first end ws h) w.1 k (omega arith) in
    let next : suc k + 1 ≡ suc (k + 1) = omega arith in
    rw next more

pub taken_in_rises : (s : HistoryState) (kept : List Entry) (first end : ℕ) → AreGuests kept → Legal s kept → AreRising first end s.waiting
    → IsStrictlyIncreasing (rising (arrived_numbers kept))
taken_in_rises s kept first end k legal h =
    let ns = arrived_numbers kept in
    rise 0 first end (rising ns) s.waiting (Climb-rising ns) h (AllWait-rising ns s.waiting (kept_take_in s kept k legal).0)
