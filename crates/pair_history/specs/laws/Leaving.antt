-- What leaves for a client, in two parts, and of entries of which none leaves; and that frames leave in the order in which they were sent.
use Rattle.std.proofs.Common.{◌≡◌, ℕ, List, [], ◌∷◌, ◌++◌, refl, sym, ap, ◌∙◌, append_assoc, subst, arith, ◌-◌, ◌≤◌, length, take, Bool}
use Rattle.std.proofs.{Common.{true, false, cond}, lemmas.Bool.Decides.nat_tests, lemmas.List.{map-append, append-nil}}
use Rattle.std.proofs.lemmas.List.Elements.{All-nil, All-head, All-tail, All-cons, All-append}
use Rattle.std.specs.Prelude.{All, ◌==◌, remove}
use Rattle.pair_history.specs.{Entries.{Frame, Entry, Ran, Land, DropOut}, HistoryState.{HistoryState, after, at, out_of}, Leaving.Way}
use Rattle.pair_history.specs.Leaving.{leaves_by, leaving, frames_left, LeaveInOrder, NotGivenUp, in_way, Landed, AtFull}
use Rattle.pair_history.specs.{Landings.{DropsAreKnown, landings, BoxesFit}, Released.{sent_for, sent_to, IsFresh}, Reached.AllClients}
use Rattle.guest_rules.specs.Step.{sent}
use Rattle.frame_ports.specs.{Addresses.targets_of, Lands.{list_of, has_room, landed_at}, Limits.box_frames}
use Rattle.pair_history.specs.laws.{ClientLists.out_of-without, Landings.{one_lands, BoxesFit-at, BoxesFit-landed_at}}
use Rattle.frame_ports.specs.laws.Lands.{length-landed_at}

pub out_of-append : (c : ℕ) (ps qs : List (ℕ × Frame)) → out_of c (ps ++ qs) ≡ out_of c ps ++ out_of c qs
out_of-append c [] qs = refl
out_of-append c (p ∷ ps) qs = grind (arith, nat_tests, out_of-append c ps qs)

pub frames_left-append : (xs ys : List (Way × Frame)) → frames_left (xs ++ ys) ≡ frames_left xs ++ frames_left ys
frames_left-append xs ys = map-append (λ (x : Way × Frame). x.1) xs ys

pub leaving-append : (s : HistoryState) (es fs : List Entry) (c : ℕ) → leaving s (es ++ fs) c ≡ leaving s es c ++ leaving (at s es) fs c
leaving-append s [] fs c = refl
leaving-append s (e ∷ es) fs c =
    ap (λ x. leaves_by c s e ++ x) (leaving-append (after s e) es fs c)
    ∙ sym (append_assoc (leaves_by c s e) (leaving (after s e) es c) (leaving (at (after s e) es) fs c))

-- an entry that takes no frame off those on their way
abbrev pub TakesNone : Entry → Type 0
TakesNone e = (c : ℕ) (s : HistoryState) → leaves_by c s e ≡ []

pub none_leave : (s : HistoryState) (es : List Entry) → All TakesNone es → LeaveInOrder s es []
none_leave s [] p c = (refl, All-nil NotGivenUp)
none_leave s (e ∷ es) p c =
    let first = All-head TakesNone e es p c s in
    let t = after s e in
    let more = none_leave t es (All-tail TakesNone e es p) c in (
      ap (λ x. frames_left (x ++ leaving t es c)) first ∙ more.0,
      subst (λ x. All NotGivenUp (x ++ leaving t es c)) (sym first) more.1,
    )

frames-in_way : (way : Way) (fs : List Frame) → frames_left (in_way way fs) ≡ fs
frames-in_way way [] = refl
frames-in_way way (f ∷ fs) = ap (λ t. f ∷ t) (frames-in_way way fs)

-- the front and the rest
front-rest : (xs : List Frame) → take 1 xs ++ remove xs 0 ≡ xs
front-rest [] = refl
front-rest (x ∷ xs) = refl

-- What an entry sends goes behind what is on its way, and what leaves is its front.
one_leaves : (c : ℕ) (s : HistoryState) (e : Entry) → DropsAreKnown s (e ∷ [])
    → out_of c s.out ++ sent_for c s e ≡ frames_left (leaves_by c s e) ++ out_of c (after s e).out
one_leaves c s Ran k = sym (out_of-append c s.out (targets_of (length s.boxes) (sent s.guest)))
one_leaves c s (Land d) k = grind (arith, nat_tests, append-nil, out_of-without c d 0 s.out, frames-in_way, front-rest)
one_leaves c s (DropOut d place) k =
    let z = place - length (list_of s.boxes d) in
    let known = k.0 in
    let none : z ≡ 0 = omega arith in
    grind (arith, nat_tests, append-nil, frames-in_way, front-rest, out_of-without c d z s.out, none)
one_leaves c s other k = append-nil (out_of c s.out)

DropsAreKnown-first : (s : HistoryState) (e : Entry) (es : List Entry) → DropsAreKnown s (e ∷ es)
    → DropsAreKnown s (e ∷ []) × DropsAreKnown (after s e) es
DropsAreKnown-first s (DropOut c place) es k = ((k.0, tt), k.1)
DropsAreKnown-first s other es k = (tt, k)

-- What was on its way, and then what is sent along a history, is what leaves, and then what is on its way at its end.
pub leave_in_order : (c : ℕ) (s : HistoryState) (es : List Entry) → DropsAreKnown s es
    → out_of c s.out ++ sent_to s es c ≡ frames_left (leaving s es c) ++ out_of c (at s es).out
leave_in_order c s [] k = append-nil (out_of c s.out)
leave_in_order c s (e ∷ es) k =
    let parts = DropsAreKnown-first s e es k in
    let t = after s e in
    let one = one_leaves c s e parts.0 in
    let more = leave_in_order c t es parts.1 in
    let gone = leaves_by c s e in
    sym (append_assoc (out_of c s.out) (sent_for c s e) (sent_to t es c))
    ∙ ap (λ x. x ++ sent_to t es c) one
    ∙ append_assoc (frames_left gone) (out_of c t.out) (sent_to t es c)
    ∙ ap (λ x. frames_left gone ++ x) more
    ∙ sym (append_assoc (frames_left gone) (frames_left (leaving t es c)) (out_of c (at t es).out))
    ∙ ap (λ x. x ++ out_of c (at t es).out) (sym (frames_left-append gone (leaving t es c)))

pub all_leave_in_order : (s : HistoryState) (es : List Entry) (c : ℕ) → IsFresh s → DropsAreKnown s es
    → sent_to s es c ≡ frames_left (leaving s es c) ++ out_of c (at s es).out
all_leave_in_order s es c fresh k =
    ap (λ (ps : List (ℕ × Frame)). out_of c ps ++ sent_to s es c) (sym fresh.out) ∙ leave_in_order c s es k

-- WHAT LANDS leaves in order, and none of it is given up.

module _ (s : HistoryState) (p : ℕ × Frame) (rest : List (ℕ × Frame)) (first : s.out ≡ p ∷ rest) where
  land_leaves : (c : ℕ) → (frames_left (leaves_by c s (Land p.0)) ≡ out_of c (p ∷ [])) × All NotGivenUp (leaves_by c s (Land p.0))
  land_leaves c = rw first (by_test (p.0 == c))
    where
      by_test : (t : Bool) → (frames_left (cond t (in_way Landed (take 1 (cond t (p.1 ∷ out_of c rest) (out_of c rest)))) [])
          ≡ cond t (p.1 ∷ []) [])
          × All NotGivenUp (cond t (in_way Landed (take 1 (cond t (p.1 ∷ out_of c rest) (out_of c rest)))) [])
      by_test true = (refl, All-cons NotGivenUp (Landed, p.1) [] refl (All-nil NotGivenUp))
      by_test false = (refl, All-nil NotGivenUp)

  drop_leaves : length (list_of s.boxes p.0) ≡ box_frames → (c : ℕ)
      → (frames_left (leaves_by c s (DropOut p.0 box_frames)) ≡ out_of c (p ∷ [])) × All NotGivenUp (leaves_by c s (DropOut p.0 box_frames))
  drop_leaves full c = rw full (rw first (by_test (p.0 == c)))
    where
      by_test : (t : Bool) → (frames_left (cond t (in_way AtFull (take 1 (cond t (p.1 ∷ out_of c rest) (out_of c rest)))) [])
          ≡ cond t (p.1 ∷ []) [])
          × All NotGivenUp (cond t (in_way AtFull (take 1 (cond t (p.1 ∷ out_of c rest) (out_of c rest)))) [])
      by_test true = (refl, All-cons NotGivenUp (AtFull, p.1) [] refl (All-nil NotGivenUp))
      by_test false = (refl, All-nil NotGivenUp)

-- one entry, and then those after it
LeaveInOrder-cons : (s : HistoryState) (e : Entry) (es : List Entry) (p : ℕ × Frame) (ps : List (ℕ × Frame))
    → ((c : ℕ) → (frames_left (leaves_by c s e) ≡ out_of c (p ∷ [])) × All NotGivenUp (leaves_by c s e))
    → LeaveInOrder (after s e) es ps → LeaveInOrder s (e ∷ es) (p ∷ ps)
LeaveInOrder-cons s e es p ps one more c = (
  frames_left-append (leaves_by c s e) (leaving (after s e) es c)
      ∙ (λ i. (one c).0 i ++ (more c).0 i)
      ∙ sym (out_of-append c (p ∷ []) ps),
  All-append NotGivenUp (leaves_by c s e) (leaving (after s e) es c) (one c).1 (more c).1,
)

pub landings-leave : (s : HistoryState) (ps qs : List (ℕ × Frame)) → s.out ≡ ps ++ qs → AllClients (length s.boxes) ps → BoxesFit s.boxes
    → LeaveInOrder s (landings s.boxes ps) ps
landings-leave s [] qs e a fit = λ c. (refl, All-nil NotGivenUp)
landings-leave s (p ∷ ps) qs e a fit =
    let t : HistoryState = record s { out = ps ++ qs; boxes = landed_at s.boxes p.0 p.1 } in
    let clients : AllClients (length t.boxes) ps = rw length-landed_at a.2 in
    let more = landings-leave t ps qs refl clients (BoxesFit-landed_at s.boxes p.0 p.1 fit) in
    by_room more (has_room s.boxes p.0) refl
  where
    by_room : LeaveInOrder (record s { out = ps ++ qs; boxes = landed_at s.boxes p.0 p.1 }) (landings (landed_at s.boxes p.0 p.1) ps) ps → (room : Bool) → has_room s.boxes p.0 ≡ room
        → LeaveInOrder s (cond room (Land p.0) (DropOut p.0 box_frames) ∷ landings (landed_at s.boxes p.0 p.1) ps) (p ∷ ps)
    by_room more true is =
        let goes = one_lands s p.0 p.1 (ps ++ qs) e a.0 a.1 fit true is in
        LeaveInOrder-cons s (Land p.0) (landings (landed_at s.boxes p.0 p.1) ps) p ps (land_leaves s p (ps ++ qs) e)
        (subst (λ v. LeaveInOrder v (landings (landed_at s.boxes p.0 p.1) ps) ps) (sym goes.1) more)
    by_room more false is =
        let goes = one_lands s p.0 p.1 (ps ++ qs) e a.0 a.1 fit false is in
        let most : length (list_of s.boxes p.0) ≤ box_frames = BoxesFit-at s.boxes (p.0 - 1) fit in
        let full : length (list_of s.boxes p.0) ≡ box_frames = grind (arith, nat_tests) in
        LeaveInOrder-cons s (DropOut p.0 box_frames) (landings (landed_at s.boxes p.0 p.1) ps) p ps (drop_leaves s p (ps ++ qs) e full)
        (subst (λ v. LeaveInOrder v (landings (landed_at s.boxes p.0 p.1) ps) ps) (sym goes.1) more)
