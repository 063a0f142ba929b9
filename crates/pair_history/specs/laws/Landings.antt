-- Laws of landings: what the entries that an acknowledgement adds do to a history's state.
use Rattle.std.proofs.Common.{◌≡◌, ℕ, zero, suc, ◌-◌, ◌≤◌, List, [], ◌∷◌, ◌++◌, length, replicate, set, get_or, refl, ap, ◌∙◌}
use Rattle.std.proofs.Common.{arith, Bool, true, false, cond}
use Rattle.std.specs.List.{All}
use Rattle.std.proofs.lemmas.Bool.{ltb-true}
use Rattle.std.proofs.lemmas.Bool.Decides.{nat_tests}
use Rattle.std.proofs.lemmas.List.{length-append}
use Rattle.std.proofs.lemmas.List.Elements.{All-head, All-tail}
use Rattle.frame_ports.specs.Addresses.{targets_of}
use Rattle.frame_ports.specs.Lands.{list_of, has_room, landed_at, lands}
use Rattle.frame_ports.specs.Limits.{box_frames}
use Rattle.frame_ports.specs.laws.Addresses.{targets_of-clients}
pub use Rattle.frame_ports.specs.laws.Lands.{length-landed_at, length-lands}
use Rattle.pair_history.specs.Entries.{Frame, Entry, Land, DropOut}
use Rattle.pair_history.specs.HistoryState.{HistoryState, at, after, Legal, Allows, out_of, out_without}
use Rattle.pair_history.specs.Landings.{landings, DropsAtFull, BoxesFit}
pub use Rattle.pair_history.specs.Reached.{AllClients}

-- boxes keep their number and their limit

pub BoxesFit-set : (bs : List (List Frame)) (i : ℕ) (b : List Frame) → BoxesFit bs → length b ≤ box_frames → BoxesFit (set bs i b)
BoxesFit-set [] i b h k = tt
BoxesFit-set (x ∷ bs) zero b h k = (k, h.1)
BoxesFit-set (x ∷ bs) (suc i) b h k = (h.0, BoxesFit-set bs i b h.1 k)

pub BoxesFit-at : (bs : List (List Frame)) (i : ℕ) → BoxesFit bs → length (get_or bs i []) ≤ box_frames
BoxesFit-at [] i h = omega arith
BoxesFit-at (x ∷ bs) zero h = h.0
BoxesFit-at (x ∷ bs) (suc i) h = BoxesFit-at bs i h.1

pub BoxesFit-landed_at : (bs : List (List Frame)) (c : ℕ) (f : Frame) → BoxesFit bs → BoxesFit (landed_at bs c f)
BoxesFit-landed_at bs c f h =
    let more = BoxesFit-set bs (c - 1) (list_of bs c ++ f ∷ []) h in
    grind (arith, nat_tests, length-append)

pub BoxesFit-lands : (bs : List (List Frame)) (ps : List (ℕ × Frame)) → BoxesFit bs → BoxesFit (lands bs ps)
BoxesFit-lands bs [] h = h
BoxesFit-lands bs (p ∷ ps) h = BoxesFit-lands (landed_at bs p.0 p.1) ps (BoxesFit-landed_at bs p.0 p.1 h)

pub BoxesFit-empty : (clients : ℕ) → BoxesFit (replicate clients [])
BoxesFit-empty zero = tt
BoxesFit-empty (suc clients) = (omega arith, BoxesFit-empty clients)

-- each landing is one entry
pub length-landings : (boxes : List (List Frame)) (ps : List (ℕ × Frame)) → length (landings boxes ps) ≡ length ps
length-landings boxes [] = refl
length-landings boxes (p ∷ ps) = ap suc (length-landings (landed_at boxes p.0 p.1) ps)

-- each pair's client is one of n
AllClients-from : (n : ℕ) (ps : List (ℕ × Frame)) → All (λ p. (1 ≤ p.0) × (p.0 ≤ n)) ps → AllClients n ps
AllClients-from n [] h = tt
AllClients-from n (p ∷ ps) h =
    let first = All-head (λ (q : ℕ × Frame). (1 ≤ q.0) × (q.0 ≤ n)) p ps h in
    (first.0, first.1, AllClients-from n ps (All-tail (λ (q : ℕ × Frame). (1 ≤ q.0) × (q.0 ≤ n)) p ps h))

pub AllClients-targets : (n : ℕ) (fs : List Frame) → AllClients n (targets_of n fs)
AllClients-targets n fs = AllClients-from n (targets_of n fs) (targets_of-clients n fs)

-- one frame lands, or is dropped at a full box
module _ (s : HistoryState) (c : ℕ) (f : Frame) (qs : List (ℕ × Frame)) (first : s.out ≡ (c, f) ∷ qs) (low : 1 ≤ c)
    (high : c ≤ length s.boxes) (fit : BoxesFit s.boxes) where
  abbrev pub Lands : Entry → Type 0
  Lands e = Allows s e
      × (after s e ≡ record s { out = qs; boxes = landed_at s.boxes c f })
      × ((es : List Entry) → DropsAtFull (after s e) es → DropsAtFull s (e ∷ es))

  front : out_of c s.out ≡ f ∷ out_of c qs
  front = rw first (grind (arith, nat_tests))

  rest : out_without c 0 s.out ≡ qs
  rest = rw first (grind (arith, nat_tests))

  pub one_lands : (room : Bool) → has_room s.boxes c ≡ room → Lands (cond room (Land c) (DropOut c box_frames))
  one_lands true e = (((low, high), rw front (omega arith), ltb-true _ _ e), rw (front, rest, e), λ es d. d)
  one_lands false e =
      let most : length (list_of s.boxes c) ≤ box_frames = BoxesFit-at s.boxes (c - 1) fit in
      let is : length (list_of s.boxes c) ≡ box_frames = grind (arith, nat_tests) in
      (((low, high), omega (arith, ap length front)), grind (arith, nat_tests, rest), λ es d. ((refl, is), d))

-- all of them do
abbrev pub AllLand : HistoryState → List (ℕ × Frame) → List (ℕ × Frame) → List Entry → Type 0
AllLand s ps qs es = Legal s es × (at s es ≡ record s { out = qs; boxes = lands s.boxes ps }) × DropsAtFull s es

pub landings-land : (s : HistoryState) (ps qs : List (ℕ × Frame)) → s.out ≡ ps ++ qs → AllClients (length s.boxes) ps → BoxesFit s.boxes
    → AllLand s ps qs (landings s.boxes ps)
landings-land s [] qs e a fit = (tt, (λ i. record s { out = e i }), tt)
landings-land s (p ∷ ps) qs e a fit =
    let one = one_lands s p.0 p.1 (ps ++ qs) e a.0 a.1 fit (has_room s.boxes p.0) refl in
    let t : HistoryState = record s { out = ps ++ qs; boxes = landed_at s.boxes p.0 p.1 } in
    let clients : AllClients (length t.boxes) ps = rw length-landed_at a.2 in
    let more = landings-land t ps qs refl clients (BoxesFit-landed_at s.boxes p.0 p.1 fit) in
    ((one.0, rw one.1 more.0), ap (λ v. at v (landings t.boxes ps)) one.1 ∙ more.1, one.2 (landings t.boxes ps) (rw one.1 more.2))

-- What lands moves neither the guest nor what waits for it.
pub landings-unmoved : (boxes : List (List Frame)) (ps : List (ℕ × Frame)) (h : HistoryState)
    → ((at h (landings boxes ps)).guest ≡ h.guest) × ((at h (landings boxes ps)).waiting ≡ h.waiting)
landings-unmoved boxes [] h = (refl, refl)
landings-unmoved boxes (p ∷ ps) h = by_test _ (has_room boxes p.0) (landings-unmoved (landed_at boxes p.0 p.1) ps)
  where
    Unmoved : List Entry → HistoryState → Type 0
    Unmoved es g = ((at g es).guest ≡ g.guest) × ((at g es).waiting ≡ g.waiting)

    by_test : (place : ℕ) (t : Bool) → ((g : HistoryState) → Unmoved (landings (landed_at boxes p.0 p.1) ps) g)
        → Unmoved (cond t (Land p.0) (DropOut p.0 place) ∷ landings (landed_at boxes p.0 p.1) ps) h
    by_test place true rest = rest (after h (Land p.0))
    by_test place false rest = rest (after h (DropOut p.0 place))
