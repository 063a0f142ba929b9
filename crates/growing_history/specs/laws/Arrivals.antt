-- The first waiting frames of each client can arrive, one client after another.
use Rattle.std.proofs.Common.{◌≡◌, ◌≢◌, ℕ, zero, suc, ◌+◌, ◌<◌, ◌≤◌, List, [], ◌∷◌, ◌++◌, length, map, take, drop, remove, refl, sym, ap}
use Rattle.std.proofs.Common.{◌∙◌, subst, cond, arith, eq-eqb, ne_eqb}
use Rattle.std.specs.Prelude.{slice_get, Some}
use mathlib.Core.Logic.{dite}
use native.Mathlib.Decide.{ℕ_discrete}
use Rattle.pair_history.specs.Entries.{Frame, Arrive}
use Rattle.pair_history.specs.HistoryState.{HistoryState, Waiting, inbox_of, frame_numbered, without_number, IsFirst, IsClient, at}
use Rattle.pair_history.specs.HistoryState as history
use Rattle.pair_history.specs.Reached.{AreRising}
use Rattle.pair_history.specs.Reached.{IsReached}
use Rattle.pair_history.specs.laws.Waits.{without_numbers-append, rising-without_numbers}
use Rattle.pair_history.specs.laws.Waiting.{AreRising-without, StandsAt, leaves-at, first-waits}
use Rattle.pair_history.specs.Waits.{without_numbers, AllWait}
use Rattle.growing_history.specs.LogState.{first_frames}

-- frames of these numbers arrive in this order
abbrev CanArrive : List ℕ → List Waiting → Type 0
CanArrive [] ws = Unit {0}
CanArrive (n ∷ ns) ws = IsFirst n ws × CanArrive ns (without_number n ws)

arrive-append : (ns ms : List ℕ) (ws : List Waiting) → CanArrive ns ws → CanArrive ms (without_numbers ns ws) → CanArrive (ns ++ ms) ws
arrive-append [] ms ws a b = b
arrive-append (n ∷ ns) ms ws a b = (a.0, arrive-append ns ms (without_number n ws) a.1 b)

arrivals-legal : (s : HistoryState) (ns : List ℕ) → CanArrive ns s.waiting → history.Legal s (map Arrive ns)
arrivals-legal s [] a = tt
arrivals-legal s (n ∷ ns) a = (a.0, arrivals-legal (history.after s (Arrive n)) ns a.1)

arrivals-leave : (s : HistoryState) (ns : List ℕ) → (at s (map Arrive ns)).waiting ≡ without_numbers ns s.waiting
arrivals-leave s [] = refl
arrivals-leave s (n ∷ ns) = arrivals-leave (history.after s (Arrive n)) ns

module _ (first end : ℕ) where
  -- The first of one client arrive, and leave only its own inbox.

  abbrev numbers : ℕ → List (ℕ × Frame) → List ℕ
  numbers k inbox = map (λ p. p.0) (take k inbox)

  -- what is so where the first k of that inbox, which is client c's, arrive
  abbrev FirstOf : ℕ → ℕ → List (ℕ × Frame) → List Waiting → Type 0
  FirstOf k c inbox ws = CanArrive (numbers k inbox) ws
      × (inbox_of c (without_numbers (numbers k inbox) ws) ≡ drop k inbox)
      × ((d : ℕ) → d ≢ c → inbox_of d (without_numbers (numbers k inbox) ws) ≡ inbox_of d ws)

  first-of : (k c : ℕ) (inbox : List (ℕ × Frame)) (ws : List Waiting) → AreRising first end ws → inbox_of c ws ≡ inbox
      → FirstOf k c inbox ws
  first-of zero c inbox ws r is = (tt, is, λ d other. refl)
  first-of (suc k) c [] ws r is = (tt, is, λ d other. refl)
  first-of (suc k) c (p ∷ inbox) ws r is =
      let stands : StandsAt c 0 p.0 p.1 ws = ap (λ l. slice_get l 0) is in
      let leaves = leaves-at c 0 p.0 p.1 first end ws r stands in
      let own : inbox_of c (without_number p.0 ws) ≡ inbox =
      leaves.1 c ∙ (ap (λ t. cond t (remove (inbox_of c ws) 0) (inbox_of c ws)) (eq-eqb c c refl) ∙ ap (λ l. remove l 0) is) in
      let rest = first-of k c inbox (without_number p.0 ws) (AreRising-without p.0 first end ws r) own in (
        ((c, p.1, stands), rest.0),
        rest.1,
        λ d other. rest.2 d other ∙ (leaves.1 d ∙ ap (λ t. cond t (remove (inbox_of c ws) 0) (inbox_of d ws)) (ne_eqb d c other)),
      )

  -- Those of each client from that one on arrive, where the inboxes of these are as they were at first.

  abbrev FirstOfAll : ℕ → ℕ → List Waiting → List Waiting → Type 0
  FirstOfAll m c ws now = CanArrive (first_frames m c ws) now
      × ((d : ℕ) → c ≤ d → d < c + m → inbox_of d (without_numbers (first_frames m c ws) now) ≡ drop 4 (inbox_of d ws))
      × ((d : ℕ) → d < c → inbox_of d (without_numbers (first_frames m c ws) now) ≡ inbox_of d now)

  first-of-all : (m c : ℕ) (ws now : List Waiting) → AreRising first end now → ((d : ℕ) → c ≤ d → inbox_of d now ≡ inbox_of d ws)
      → FirstOfAll m c ws now
  first-of-all zero c ws now r same = (tt, (λ d low high. absurd (omega (arith, low, high))), λ d low. refl)
  first-of-all (suc m) c ws now r same =
      let inbox = inbox_of c ws in
      let ns = numbers 4 inbox in
      let ms = first_frames m (c + 1) ws in
      let later = without_numbers ns now in
      let one = first-of 4 c inbox now r (same c (omega arith)) in
      let all = first-of-all m (c + 1) ws later (rising-without_numbers first end ns now r)
      (λ d low. one.2 d (λ e. absurd (omega (arith, low, e))) ∙ same d (omega (arith, low))) in
      let apart : (d : ℕ) → inbox_of d (without_numbers (ns ++ ms) now) ≡ inbox_of d (without_numbers ms later) =
      λ d. ap (inbox_of d) (without_numbers-append ns ms now) in (
        arrive-append ns ms now one.0 all.0,
        (λ d low high. apart d ∙ dite (ℕ_discrete d c)
            (λ e. all.2 d (omega (arith, e)) ∙ subst (λ k. inbox_of k later ≡ drop 4 (inbox_of k ws)) (sym e) one.1)
            (λ ne. all.1 d (omega (arith, low, ne)) (omega (arith, high)))),
        λ d low. apart d ∙ (all.2 d (omega (arith, low)) ∙ one.2 d (λ e. absurd (omega (arith, low, e)))),
      )

-- Of a state that a history reaches.
module _ (s : HistoryState) (reached : IsReached s) where
  all-of : FirstOfAll 1 s.number (length s.boxes) 1 s.waiting s.waiting
  all-of = first-of-all 1 s.number (length s.boxes) 1 s.waiting s.waiting reached.rising (λ d low. refl)

  pub handed-legal : history.Legal s (map Arrive (first_frames (length s.boxes) 1 s.waiting))
  handed-legal = arrivals-legal s (first_frames (length s.boxes) 1 s.waiting) all-of.0

  pub handed-leave : (c : ℕ) → IsClient s c
      → inbox_of c (at s (map Arrive (first_frames (length s.boxes) 1 s.waiting))).waiting ≡ drop 4 (inbox_of c s.waiting)
  handed-leave c is = ap (inbox_of c) (arrivals-leave s (first_frames (length s.boxes) 1 s.waiting))
      ∙ all-of.1 c is.0 (omega (arith, is.1))

  pub waits-numbered : (c place n : ℕ) (f : Frame) → slice_get (inbox_of c s.waiting) place ≡ Some (n, f)
      → frame_numbered n s.waiting ≡ Some f
  waits-numbered c place n f stands = (leaves-at c place n f 1 s.number s.waiting reached.rising stands).0

-- Of what waits alone, where its numbers rise.
wait-all : (ns : List ℕ) (ws : List Waiting) → CanArrive ns ws → AllWait ns ws
wait-all [] ws a = tt
wait-all (n ∷ ns) ws a = (first-waits n ws a.0, wait-all ns (without_number n ws) a.1)

module _ (first end m : ℕ) (ws : List Waiting) (rises : AreRising first end ws) where
  firsts : FirstOfAll first end m 1 ws ws
  firsts = first-of-all first end m 1 ws ws rises (λ d low. refl)

  -- the first frames of each inbox wait, and leave it where they are taken out
  pub firsts-wait : AllWait (first_frames m 1 ws) ws
  firsts-wait = wait-all (first_frames m 1 ws) ws firsts.0

  pub firsts-leave : (c : ℕ) → 1 ≤ c → c ≤ m → inbox_of c (without_numbers (first_frames m 1 ws) ws) ≡ drop 4 (inbox_of c ws)
  firsts-leave c low high = firsts.1 c low (omega (arith, high))
