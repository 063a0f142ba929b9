-- Drops that are known, and those that were asked for or come at a full box: in two parts, and the one from the other.
use Rattle.std.proofs.Common.{◌≤◌, ◌⊎◌, inl, inr, List, [], ◌∷◌, ◌++◌, length, arith}
use Rattle.frame_ports.specs.Lands.{list_of}
use Rattle.pair_history.specs.Entries.{Entry, Ran, Arrive, DropIn, DropOut}
use Rattle.pair_history.specs.HistoryState.{HistoryState, at, after}
use Rattle.pair_history.specs.Landings.{IsAtFull, IsInBox, DropsAreKnown, DropsAreAskedOrFull, DropsAtFull}
use Rattle.pair_history.specs.Order.{AreGuests}

pub DropsAreKnown-append : (s : HistoryState) (es fs : List Entry) → DropsAreKnown s es → DropsAreKnown (at s es) fs
    → DropsAreKnown s (es ++ fs)
DropsAreKnown-append s [] fs p q = q
DropsAreKnown-append s (DropOut c place ∷ es) fs p q = (p.0, DropsAreKnown-append (after s (DropOut c place)) es fs p.1 q)
DropsAreKnown-append s (other ∷ es) fs p q = DropsAreKnown-append (after s other) es fs p q

pub DropsAreAskedOrFull-append : (s : HistoryState) (es fs : List Entry) → DropsAreAskedOrFull s es → DropsAreAskedOrFull (at s es) fs
    → DropsAreAskedOrFull s (es ++ fs)
DropsAreAskedOrFull-append s [] fs p q = q
DropsAreAskedOrFull-append s (DropOut c place ∷ es) fs p q = (p.0, DropsAreAskedOrFull-append (after s (DropOut c place)) es fs p.1 q)
DropsAreAskedOrFull-append s (other ∷ es) fs p q = DropsAreAskedOrFull-append (after s other) es fs p q

-- what comes at a full box, or was asked for, is known
pub at_full-asked : (s : HistoryState) (es : List Entry) → DropsAtFull s es → DropsAreAskedOrFull s es
at_full-asked s [] p = tt
at_full-asked s (DropIn n ∷ es) p = absurd p
at_full-asked s (DropOut c place ∷ es) p = (inr p.0, at_full-asked (after s (DropOut c place)) es p.1)
at_full-asked s (other ∷ es) p = at_full-asked (after s other) es p

pub asked-known : (s : HistoryState) (es : List Entry) → DropsAreAskedOrFull s es → DropsAreKnown s es
asked-known s [] p = tt
asked-known s (DropOut c place ∷ es) p = (by_why p.0, asked-known (after s (DropOut c place)) es p.1)
  where
    by_why : IsInBox s c place ⊎ IsAtFull s c place → place ≤ length (list_of s.boxes c)
    by_why (inl l) = omega (arith, l)
    by_why (inr f) = omega (arith, f.0, f.1)
asked-known s (other ∷ es) p = asked-known (after s other) es p

-- the guest drops nothing
pub DropsAreAskedOrFull-guests : (s : HistoryState) (es : List Entry) → AreGuests es → DropsAreAskedOrFull s es
DropsAreAskedOrFull-guests s [] g = tt
DropsAreAskedOrFull-guests s (Ran ∷ es) g = DropsAreAskedOrFull-guests (after s Ran) es g.1
DropsAreAskedOrFull-guests s (Arrive n ∷ es) g = DropsAreAskedOrFull-guests (after s (Arrive n)) es g.1
DropsAreAskedOrFull-guests s (other ∷ es) g = absurd g.0
