-- What waits, and the next number, along entries: steps, landings, takes, refusals and drops out of boxes don't matter.
use Rattle.std.proofs.Common.{◌≡◌, ◌≢◌, ℕ, Bool, true, false, cond, List, [], ◌∷◌, ◌++◌, map, refl, sym, ap, ◌∙◌, subst}
use Rattle.std.proofs.Common.{◌≤◌, length, arith, Some}
use Rattle.std.proofs.lemmas.Bool.Decides.{nat_tests}
use Rattle.frame_ports.specs.Lands.{has_room, landed_at}
use Rattle.frame_ports.specs.Limits.{box_frames}
use Rattle.pair_history.specs.Entries.{Frame, Entry, Ran, Arrive, Delivered, Refused, DropIn, Land, DropOut, Took}
use Rattle.pair_history.specs.HistoryState.{HistoryState, Waiting, frame_numbered, without_number, at, after}
use Rattle.pair_history.specs.Failures.{arrived_numbers, put_rising, rising, drops_of_taken_in, all_land, go_live_entries}
use Rattle.pair_history.specs.Failures.{fail_backup_entries}
use Rattle.pair_history.specs.Landings.{landings}
use Rattle.pair_history.specs.Order.{AreGuests}
use Rattle.pair_history.specs.Reached.{AreRising}
use Rattle.pair_history.specs.Waits.{Waits, without_numbers, AllWait, waits_after, waits_along, number_after, number_along}
use Rattle.pair_history.specs.Waits.{IsQuiet, AreQuiet}
use Rattle.pair_history.specs.laws.Waiting.{AreRising-without, found-without, frame_numbered-more, without-swaps, gone}

-- WHAT A STATE SAYS OF IT

one-waits : (s : HistoryState) (e : Entry) → (after s e).waiting ≡ waits_after s.waiting e
one-waits s Ran = refl
one-waits s (Arrive n) = refl
one-waits s (Delivered c f n) = refl
one-waits s (Refused c f) = refl
one-waits s (DropIn n) = refl
one-waits s (Land c) = refl
one-waits s (DropOut c place) = refl
one-waits s (Took c answer) = refl

pub at-waits : (s : HistoryState) (es : List Entry) → (at s es).waiting ≡ waits_along s.waiting es
at-waits s [] = refl
at-waits s (e ∷ es) = at-waits (after s e) es ∙ ap (λ (ws : List Waiting). waits_along ws es) (one-waits s e)

one-number : (s : HistoryState) (e : Entry) → (after s e).number ≡ number_after s.number e
one-number s Ran = refl
one-number s (Arrive n) = refl
one-number s (Delivered c f n) = refl
one-number s (Refused c f) = refl
one-number s (DropIn n) = refl
one-number s (Land c) = refl
one-number s (DropOut c place) = refl
one-number s (Took c answer) = refl

pub at-number : (s : HistoryState) (es : List Entry) → (at s es).number ≡ number_along s.number es
at-number s [] = refl
at-number s (e ∷ es) = at-number (after s e) es ∙ ap (λ (n : ℕ). number_along n es) (one-number s e)

-- IN PARTS

pub waits-append : (ws : List Waiting) (es fs : List Entry) → waits_along ws (es ++ fs) ≡ waits_along (waits_along ws es) fs
waits-append ws [] fs = refl
waits-append ws (e ∷ es) fs = waits-append (waits_after ws e) es fs

pub number-append : (n : ℕ) (es fs : List Entry) → number_along n (es ++ fs) ≡ number_along (number_along n es) fs
number-append n [] fs = refl
number-append n (e ∷ es) fs = number-append (number_after n e) es fs

pub arrived_numbers-append : (xs ys : List Entry) → arrived_numbers (xs ++ ys) ≡ arrived_numbers xs ++ arrived_numbers ys
arrived_numbers-append [] ys = refl
arrived_numbers-append (Arrive n ∷ xs) ys = ap (λ l. n ∷ l) (arrived_numbers-append xs ys)
arrived_numbers-append (other ∷ xs) ys = arrived_numbers-append xs ys

pub arrived-few : (es : List Entry) → length (arrived_numbers es) ≤ length es
arrived-few [] = omega arith
arrived-few (Arrive n ∷ es) = let l = arrived-few es in omega arith
arrived-few (other ∷ es) = let l = arrived-few es in omega arith

pub without_numbers-append : (ns ms : List ℕ) (ws : List Waiting)
    → without_numbers (ns ++ ms) ws ≡ without_numbers ms (without_numbers ns ws)
without_numbers-append [] ms ws = refl
without_numbers-append (n ∷ ns) ms ws = without_numbers-append ns ms (without_number n ws)

pub AllWait-first : (ns ms : List ℕ) (ws : List Waiting) → AllWait (ns ++ ms) ws → AllWait ns ws
AllWait-first [] ms ws h = tt
AllWait-first (n ∷ ns) ms ws h = (h.0, AllWait-first ns ms (without_number n ws) h.1)

pub AllWait-second : (ns ms : List ℕ) (ws : List Waiting) → AllWait (ns ++ ms) ws → AllWait ms (without_numbers ns ws)
AllWait-second [] ms ws h = h
AllWait-second (n ∷ ns) ms ws h = AllWait-second ns ms (without_number n ws) h.1

pub AllWait-append : (ns ms : List ℕ) (ws : List Waiting) → AllWait ns ws → AllWait ms (without_numbers ns ws) → AllWait (ns ++ ms) ws
AllWait-append [] ms ws h k = k
AllWait-append (n ∷ ns) ms ws h k = (h.0, AllWait-append ns ms (without_number n ws) h.1 k)

pub rising-without_numbers : (first end : ℕ) (ns : List ℕ) (ws : List Waiting) → AreRising first end ws
    → AreRising first end (without_numbers ns ws)
rising-without_numbers first end [] ws r = r
rising-without_numbers first end (n ∷ ns) ws r =
    rising-without_numbers first end ns (without_number n ws) (AreRising-without n first end ws r)

-- WHAT THE GUEST DOES takes out what arrives

pub waits-guests : (ws : List Waiting) (es : List Entry) → AreGuests es → waits_along ws es ≡ without_numbers (arrived_numbers es) ws
waits-guests ws [] g = refl
waits-guests ws (Ran ∷ es) g = waits-guests ws es g.1
waits-guests ws (Arrive n ∷ es) g = waits-guests (without_number n ws) es g.1
waits-guests ws (other ∷ es) g = absurd g.0

pub number-guests : (n : ℕ) (es : List Entry) → AreGuests es → number_along n es ≡ n
number-guests n [] g = refl
number-guests n (Ran ∷ es) g = number-guests n es g.1
number-guests n (Arrive m ∷ es) g = number-guests n es g.1
number-guests n (other ∷ es) g = absurd g.0

pub arrived_numbers-arrivals : (ns : List ℕ) → arrived_numbers (map Arrive ns) ≡ ns
arrived_numbers-arrivals [] = refl
arrived_numbers-arrivals (n ∷ ns) = ap (λ l. n ∷ l) (arrived_numbers-arrivals ns)

pub AreGuests-arrivals : (ns : List ℕ) → AreGuests (map Arrive ns)
AreGuests-arrivals [] = tt
AreGuests-arrivals (n ∷ ns) = (tt, AreGuests-arrivals ns)

-- WHAT IS QUIET changes nothing

pub waits-quiet : (ws : List Waiting) (es : List Entry) → AreQuiet es → waits_along ws es ≡ ws
waits-quiet ws [] q = refl
waits-quiet ws (Arrive n ∷ es) q = absurd q.0
waits-quiet ws (Delivered c f n ∷ es) q = absurd q.0
waits-quiet ws (DropIn n ∷ es) q = absurd q.0
waits-quiet ws (other ∷ es) q = waits-quiet ws es q.1

pub number-quiet : (n : ℕ) (es : List Entry) → AreQuiet es → number_along n es ≡ n
number-quiet n [] q = refl
number-quiet n (Delivered c f m ∷ es) q = absurd q.0
number-quiet n (other ∷ es) q = number-quiet n es q.1

pub AreQuiet-landings : (b : List (List Frame)) (ps : List (ℕ × Frame)) → AreQuiet (landings b ps)
AreQuiet-landings b [] = tt
AreQuiet-landings b (p ∷ ps) = (one (has_room b p.0), AreQuiet-landings (landed_at b p.0 p.1) ps)
  where
    one : (room : Bool) → IsQuiet (cond room (Land p.0) (DropOut p.0 box_frames))
    one true = tt
    one false = tt

-- DROPS take out what arrivals of the same numbers do, in whatever order

pub waits-drops : (ws : List Waiting) (ns : List ℕ) → waits_along ws (map DropIn ns) ≡ without_numbers ns ws
waits-drops ws [] = refl
waits-drops ws (n ∷ ns) = waits-drops (without_number n ws) ns

pub number-drops : (n : ℕ) (ns : List ℕ) → number_along n (map DropIn ns) ≡ n
number-drops n [] = refl
number-drops n (m ∷ ns) = number-drops n ns

without_numbers-put : (n : ℕ) (ns : List ℕ) (ws : List Waiting) → without_numbers (put_rising n ns) ws ≡ without_numbers (n ∷ ns) ws
without_numbers-put n [] ws = refl
without_numbers-put n (m ∷ ns) ws =
    grind (arith, nat_tests, without_numbers-put n ns (without_number m ws), without-swaps n m ws)

pub without_numbers-rising : (ns : List ℕ) (ws : List Waiting) → without_numbers (rising ns) ws ≡ without_numbers ns ws
without_numbers-rising [] ws = refl
without_numbers-rising (n ∷ ns) ws = without_numbers-put n (rising ns) ws ∙ without_numbers-rising ns (without_number n ws)

-- where the backup goes live
pub waits-go_live : (ws : List Waiting) (s : HistoryState) (way : List Entry) → AreGuests way
    → waits_along ws (go_live_entries s way) ≡ waits_along ws way
waits-go_live ws s way g =
    waits-append ws (drops_of_taken_in way) (all_land s)
    ∙ waits-quiet (waits_along ws (drops_of_taken_in way)) (all_land s) (AreQuiet-landings s.boxes s.out)
    ∙ waits-drops ws (rising (arrived_numbers way))
    ∙ without_numbers-rising (arrived_numbers way) ws
    ∙ sym (waits-guests ws way g)

pub number-go_live : (n : ℕ) (s : HistoryState) (way : List Entry) → number_along n (go_live_entries s way) ≡ n
number-go_live n s way =
    number-append n (drops_of_taken_in way) (all_land s)
    ∙ number-quiet (number_along n (drops_of_taken_in way)) (all_land s) (AreQuiet-landings s.boxes s.out)
    ∙ number-drops n (rising (arrived_numbers way))

-- where it fails
pub waits-fail_backup : (ws : List Waiting) (s : HistoryState) (kept : List Entry)
    → waits_along ws (fail_backup_entries s kept) ≡ waits_along ws kept
waits-fail_backup ws s kept =
    let then = at s kept in
    waits-append ws kept (all_land then) ∙ waits-quiet (waits_along ws kept) (all_land then) (AreQuiet-landings then.boxes then.out)

pub number-fail_backup : (n : ℕ) (s : HistoryState) (kept : List Entry)
    → number_along n (fail_backup_entries s kept) ≡ number_along n kept
number-fail_backup n s kept =
    let then = at s kept in
    number-append n kept (all_land then) ∙ number-quiet (number_along n kept) (all_land then) (AreQuiet-landings then.boxes then.out)

-- A DELIVERED FRAME stands behind what others take out

pub AllWait-more : (ns : List ℕ) (ws xs : List Waiting) → AllWait ns ws
    → AllWait ns (ws ++ xs) × (without_numbers ns (ws ++ xs) ≡ without_numbers ns ws ++ xs)
AllWait-more [] ws xs h = (tt, refl)
AllWait-more (n ∷ ns) ws xs h =
    let more = frame_numbered-more n h.0.0 ws xs h.0.1 in
    let rest = AllWait-more ns (without_number n ws) xs h.1 in (
      ((h.0.0, more.0), subst (AllWait ns) (sym more.1) rest.0),
      ap (without_numbers ns) more.1 ∙ rest.1,
    )

-- A FRAME THAT STILL WAITS once others have left can leave before them

abbrev pub LeavesFirst : ℕ → List ℕ → List Waiting → Type 0
LeavesFirst n ns ws =
    Waits n ws
    × AllWait ns (without_number n ws)
    × (without_numbers ns (without_number n ws) ≡ without_number n (without_numbers ns ws))

pub leaves-first : (n : ℕ) (f : Frame) (first end : ℕ) (ns : List ℕ) (ws : List Waiting) → AreRising first end ws → AllWait ns ws
    → frame_numbered n (without_numbers ns ws) ≡ Some f → LeavesFirst n ns ws
leaves-first n f first end [] ws r h e = ((f, e), tt, refl)
leaves-first n f first end (m ∷ ns) ws r h e =
    let later = without_number m ws in
    let more = leaves-first n f first end ns later (AreRising-without m first end ws r) h.1 e in
    let missing = gone m first end ws r in
    let differ : m ≢ n = λ (same : m ≡ n). absurd (cc (missing, more.0.1, ap (λ (k : ℕ). frame_numbered k later) same)) in
    let swaps = without-swaps m n ws in (
      (more.0.0, sym (found-without n m ws (λ (k : n ≡ m). differ (sym k))) ∙ more.0.1),
      ((h.0.0, found-without m n ws differ ∙ h.0.1), subst (AllWait ns) (sym swaps) more.1),
      ap (without_numbers ns) swaps ∙ more.2,
    )
