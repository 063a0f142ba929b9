-- Where a backup goes live: what was taken in is dropped, and what is owed lands. That is legal, drops no frame but at a full box, and lets
-- what is owed leave in order.
use Rattle.std.proofs.Common.{◌≡◌, ℕ, List, [], ◌∷◌, ◌++◌, length, map, refl, sym, ap, ◌∙◌}
use Rattle.std.proofs.{Common.{Bool, true, false, cond, subst}, lemmas.List.{append-nil}}
use Rattle.frame_ports.specs.{Lands.{has_room, landed_at, lands}, Limits.box_frames}
use Rattle.pair_history.specs.{Entries.{Frame, Entry, DropIn, Land, DropOut}, HistoryState.{HistoryState, at, after, Legal}}
use Rattle.pair_history.specs.{Landings.{landings, BoxesFit, DropsAreAskedOrFull}}
use Rattle.pair_history.specs.Leaving.{leaving, LeaveInOrder}
use Rattle.pair_history.specs.{Order.AreGuests, Reached.AllClients}
use Rattle.pair_history.specs.{Failures.arrived_numbers}
use Rattle.pair_history.specs.Failures.{rising, drops_of_taken_in, go_live_entries, all_land}
use Rattle.pair_history.specs.{Failures.dropped_numbers, Waits.without_numbers}
use Rattle.pair_history.specs.laws.{Histories.{at-append, Legal-append}, Landings.{landings-land}}
use Rattle.pair_history.specs.laws.{Leaving.{landings-leave}, TakenIn.taken_in_dropped}
use Rattle.pair_history.specs.laws.{TakenIn.{at-drops_in}}
use Rattle.pair_history.specs.laws.Drops.{DropsAreAskedOrFull-append, at_full-asked}

abbrev pub live_state : HistoryState → List Entry → HistoryState
live_state s kept = record s { waiting = (at s kept).waiting; out = []; boxes = lands s.boxes s.out }

pub goes_live : (s : HistoryState) (kept : List Entry) → AllClients (length s.boxes) s.out → BoxesFit s.boxes → AreGuests kept
    → Legal s kept → Legal s (go_live_entries s kept) × (at s (go_live_entries s kept) ≡ live_state s kept)
goes_live s kept clients fit k legal =
    let ins = taken_in_dropped s kept k legal in
    let land = landings-land (record s { waiting = (at s kept).waiting }) s.out [] (sym (append-nil s.out)) clients fit in
    let es = drops_of_taken_in kept in
    (Legal-append s es (all_land s) ins.0 (rw ins.1 land.0), at-append s es (all_land s) ∙ rw ins.1 land.1)

-- what is owed leaves in order, and none of it is given up

drops_in-leave : (c : ℕ) (s : HistoryState) (ns : List ℕ) (es : List Entry)
    → leaving s (map DropIn ns ++ es) c ≡ leaving (at s (map DropIn ns)) es c
drops_in-leave c s [] es = refl
drops_in-leave c s (n ∷ ns) es = drops_in-leave c (after s (DropIn n)) ns es

pub go_live_leaves : (s : HistoryState) (kept : List Entry) → AllClients (length s.boxes) s.out → BoxesFit s.boxes
    → LeaveInOrder s (go_live_entries s kept) s.out
go_live_leaves s kept clients fit c =
    let ns = rising (arrived_numbers kept) in
    let t : HistoryState = record s { waiting = without_numbers ns s.waiting } in
    rw (drops_in-leave c s ns (all_land s), at-drops_in s ns) (landings-leave t s.out [] (sym (append-nil s.out)) clients fit c)

-- which frames are dropped before they arrive

landed_numbers : (boxes : List (List Frame)) (ps : List (ℕ × Frame)) → dropped_numbers (landings boxes ps) ≡ []
landed_numbers boxes [] = refl
landed_numbers boxes (p ∷ ps) = by_room (has_room boxes p.0) (landed_numbers (landed_at boxes p.0 p.1) ps)
  where
    by_room : (t : Bool) → dropped_numbers (landings (landed_at boxes p.0 p.1) ps) ≡ []
        → dropped_numbers (cond t (Land p.0) (DropOut p.0 box_frames) ∷ landings (landed_at boxes p.0 p.1) ps) ≡ []
    by_room true none = none
    by_room false none = none

dropped_numbers-in : (ns : List ℕ) (es : List Entry) → dropped_numbers (map DropIn ns ++ es) ≡ ns ++ dropped_numbers es
dropped_numbers-in [] es = refl
dropped_numbers-in (n ∷ ns) es = ap (λ ms. n ∷ ms) (dropped_numbers-in ns es)

pub go_live_numbers : (s : HistoryState) (kept : List Entry) → dropped_numbers (go_live_entries s kept) ≡ rising (arrived_numbers kept)
go_live_numbers s kept =
    rw (dropped_numbers-in, landed_numbers s.boxes s.out) (append-nil (rising (arrived_numbers kept)))

-- and none is dropped but by a loss that was asked for, or at a full box

drops_in-asked : (s : HistoryState) (ns : List ℕ) → DropsAreAskedOrFull s (map DropIn ns)
drops_in-asked s [] = tt
drops_in-asked s (n ∷ ns) = drops_in-asked (after s (DropIn n)) ns

pub lands-asked : (s : HistoryState) → AllClients (length s.boxes) s.out → BoxesFit s.boxes → DropsAreAskedOrFull s (all_land s)
lands-asked s clients fit = at_full-asked s (all_land s) (landings-land s s.out [] (sym (append-nil s.out)) clients fit).2

pub go_live-asked : (s : HistoryState) (kept : List Entry) → AllClients (length s.boxes) s.out → BoxesFit s.boxes
    → DropsAreAskedOrFull s (go_live_entries s kept)
go_live-asked s kept clients fit =
    let ns = rising (arrived_numbers kept) in
    let t : HistoryState = record s { waiting = without_numbers ns s.waiting } in
    DropsAreAskedOrFull-append s (drops_of_taken_in kept) (all_land s) (drops_in-asked s ns)
    (subst (λ v. DropsAreAskedOrFull v (all_land s)) (sym (at-drops_in s ns)) (lands-asked t clients fit))
