-- Each entry of a legal history keeps what is so of the states that it leads to.
use Rattle.std.proofs.Common.{ℕ, ◌-◌, ◌<◌, ◌≤◌, List, [], ◌∷◌, ◌++◌, length, take}
use Rattle.std.proofs.Common.{drop, remove, arith}
use Rattle.std.proofs.lemmas.Bool.Decides.{nat_tests}
use Rattle.std.proofs.lemmas.List.{length-append, length-set, length-take, length-drop}
use Rattle.std.proofs.lemmas.List.Edits.{length-remove}
use Rattle.guest_rules.specs.Step.{sent}
use Rattle.frame_ports.specs.Addresses.{targets_of}
use Rattle.frame_ports.specs.Lands.{list_of, with_list}
use Rattle.frame_ports.specs.Limits.{box_frames}
use Rattle.pair_history.specs.Entries.{Frame, Entry, Ran, Arrive, Delivered, Refused, DropIn, Land, DropOut, Took}
use Rattle.pair_history.specs.HistoryState.{HistoryState, out_of, out_without, at, after, Allows, Legal}
use Rattle.pair_history.specs.Reached.{AllClients, IsReached}
use Rattle.pair_history.specs.laws.Landings.{BoxesFit-set, BoxesFit-at, AllClients-targets}
use Rattle.pair_history.specs.laws.Waiting.{AreRising-push, AreRising-without}
use Rattle.pair_history.specs.laws.Landings.{BoxesFit-empty}

-- more frames on their way, and one less

AllClients-append : (n : ℕ) (ps qs : List (ℕ × Frame)) → AllClients n ps → AllClients n qs → AllClients n (ps ++ qs)
AllClients-append n [] qs a b = b
AllClients-append n (p ∷ ps) qs a b = (a.0, a.1, AllClients-append n ps qs a.2 b)

pub AllClients-without : (n c place : ℕ) (ps : List (ℕ × Frame)) → AllClients n ps → AllClients n (out_without c place ps)
AllClients-without n c place [] a = grind (arith, nat_tests)
AllClients-without n c place (p ∷ ps) a = let more = λ (k : ℕ). AllClients-without n c k ps a.2 in grind (arith, nat_tests)

module _ (s : HistoryState) (h : IsReached s) where
  -- with one client's box in place, and some of what was on its way
  boxed : (out : List (ℕ × Frame)) (c : ℕ) (fs : List Frame) → AllClients (length s.boxes) out → length fs ≤ box_frames
      → IsReached (record s { out = out; boxes = with_list s.boxes c fs })
  boxed out c fs a l = record { rising = h.rising; clients = rw length-set a; fit = BoxesFit-set s.boxes (c - 1) fs h.fit l }

  one_reached : (e : Entry) → Allows s e → IsReached (after s e)
  one_reached Ran a =
      let more = AllClients-targets (length s.boxes) (sent s.guest) in
      assumption (AllClients-append (length s.boxes) s.out (targets_of (length s.boxes) (sent s.guest)) h.clients more)
  one_reached (Arrive n) a = assumption (AreRising-without n 1 s.number s.waiting h.rising)
  one_reached (Delivered c f n) a =
      assumption (AreRising-push 1 s.number s.waiting (record { number = n; client = c; frame = f }) h.rising a.2)
  one_reached (Refused c f) a = h
  one_reached (DropIn n) a = assumption (AreRising-without n 1 s.number s.waiting h.rising)
  one_reached (Land c) a =
      let box = list_of s.boxes c in
      let first = take 1 (out_of c s.out) in
      let room : length box < box_frames = a.2 in
      boxed (out_without c 0 s.out) c (box ++ first) (AllClients-without (length s.boxes) c 0 s.out h.clients)
      (omega (arith, length-append box first, length-take 1 (out_of c s.out)))
  one_reached (DropOut c place) a =
      let box = list_of s.boxes c in
      let less = AllClients-without (length s.boxes) c (place - length box) s.out h.clients in
      let most = BoxesFit-at s.boxes (c - 1) h.fit in
      let smaller = boxed s.out c (remove box place) h.clients in
      grind (arith, nat_tests, length-remove box place)
  one_reached (Took c answer) a =
      let box = list_of s.boxes c in
      let most = BoxesFit-at s.boxes (c - 1) h.fit in
      boxed s.out c (drop 1 box) h.clients (omega (arith, length-drop 1 box))

pub reached : (s : HistoryState) (es : List Entry) → IsReached s → Legal s es → IsReached (at s es)
reached s [] h legal = h
reached s (e ∷ es) h legal = reached (after s e) es (one_reached s h e legal.0) legal.1

-- what `reached_states` follows from
pub ruleset reached_laws = (reached, BoxesFit-empty)
