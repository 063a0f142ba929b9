-- What a list of entries does is what its first part does, and then its second.
use Rattle.std.proofs.Common.{◌≡◌, List, [], ◌∷◌, ◌++◌, length, Bool, true, false, refl, ◌∙◌, cond}
use Rattle.std.specs.Prelude.{nat_lt, remove}
use Rattle.std.proofs.lemmas.List.{length-set}
use Rattle.frame_ports.specs.Lands.{list_of, with_list}
use Rattle.pair_history.specs.Entries.{Entry, Land, DropOut, Took}
use Rattle.pair_history.specs.HistoryState.{HistoryState, at, after, Legal}
use Rattle.pair_history.specs.Order.{AreGuests}

-- the state at them
pub at-append : (s : HistoryState) (es fs : List Entry) → at s (es ++ fs) ≡ at (at s es) fs
at-append s [] fs = refl
at-append s (e ∷ es) fs = at-append (after s e) es fs

-- a legal list: both parts are
pub Legal-append : (s : HistoryState) (es fs : List Entry) → Legal s es → Legal (at s es) fs → Legal s (es ++ fs)
Legal-append s [] fs p q = q
Legal-append s (e ∷ es) fs p q = (p.0, Legal-append (after s e) es fs p.1 q)

pub legal-first : (h : HistoryState) (xs ys : List Entry) → Legal h (xs ++ ys) → Legal h xs
legal-first h [] ys l = tt
legal-first h (e ∷ xs) ys l = (l.0, legal-first (after h e) xs ys l.1)

pub legal-second : (h : HistoryState) (xs ys : List Entry) → Legal h (xs ++ ys) → Legal (at h xs) ys
legal-second h [] ys l = l
legal-second h (e ∷ xs) ys l = legal-second (after h e) xs ys l.1

-- the guest's own
pub guests-append : (xs ys : List Entry) → AreGuests xs → AreGuests ys → AreGuests (xs ++ ys)
guests-append [] ys a b = b
guests-append (e ∷ xs) ys a b = (a.0, guests-append xs ys a.1 b)

pub guests-first : (xs ys : List Entry) → AreGuests (xs ++ ys) → AreGuests xs
guests-first [] ys g = tt
guests-first (e ∷ xs) ys g = (g.0, guests-first xs ys g.1)

pub guests-second : (xs ys : List Entry) → AreGuests (xs ++ ys) → AreGuests ys
guests-second [] ys g = g
guests-second (e ∷ xs) ys g = guests-second xs ys g.1

-- no entry changes how many clients there are
boxes-left : (s : HistoryState) (e : Entry) → length (after s e).boxes ≡ length s.boxes
boxes-left s (Land c) = rw length-set
boxes-left s (DropOut c place) = by_test (nat_lt place (length (list_of s.boxes c)))
  where
    by_test : (t : Bool) → length (cond t (with_list s.boxes c (remove (list_of s.boxes c) place)) s.boxes) ≡ length s.boxes
    by_test true = rw length-set
    by_test false = refl
boxes-left s (Took c answer) = rw length-set
boxes-left s other = refl

pub boxes-stay : (s : HistoryState) (es : List Entry) → length (at s es).boxes ≡ length s.boxes
boxes-stay s [] = refl
boxes-stay s (e ∷ es) = boxes-stay (after s e) es ∙ boxes-left s e
