-- Laws of why a frame for a client is dropped: by a loss that was asked for, or at a full box. No failure drops one for another reason.
use Rattle.std.proofs.Common.{◌≡◌, ℕ, ◌-◌, ◌⊎◌, inl, inr, List, [], ◌∷◌, ◌++◌, length, take, drop, refl, sym, ap, ◌∙◌, Bool, true}
use Rattle.std.proofs.{Common.{false, cond}, lemmas.Bool.{lt-ltb, eqb-true}, lemmas.List.Elements.All-nil}
use Rattle.std.proofs.lemmas.List.Elements.{All-cons, All-append, filter-append}
use Rattle.std.specs.{Prelude.{◌==◌, nat_lt, All}, List.filter}
use Rattle.frame_ports.specs.{Lands.list_of, Limits.box_frames}
use Rattle.pair_history.specs.{Entries.{Frame, Entry, Ran, Land, DropOut}, HistoryState.{HistoryState, at, after, Legal, out_of}}
use Rattle.pair_history.specs.{Landings.{IsAtFull, IsInBox, DropsAreAskedOrFull}, Order.AreGuests}
use Rattle.pair_history.specs.{Reached.IsReached, Failures.{all_land}}
use Rattle.pair_history.specs.{Failures.{fail_backup_entries, alone_step_entries}, Leaving.{Way, Landed, AtFull, GivenUp, drop_way}}
use Rattle.pair_history.specs.Leaving.{in_way, is_given_up, NotGivenUp, leaves_by, leaving, frames_left, has_landed, frames_landed}
use Rattle.pair_history.specs.{Released.{sent_to, landed_by, released, IsFresh}}
use Rattle.pair_history.specs.laws.{Leaving.{all_leave_in_order, frames_left-append}}
use Rattle.pair_history.specs.laws.Drops.{DropsAreAskedOrFull-append, at_full-asked, asked-known, DropsAreAskedOrFull-guests}
use Rattle.pair_history.specs.laws.GoingLive.{lands-asked}
use Rattle.pair_history.proofs.ReachedLaws.{reached}

-- Of lists of entries.

pub asked-each : (s : HistoryState) (before later : List Entry) (c place : ℕ) → DropsAreAskedOrFull s (before ++ DropOut c place ∷ later)
    → IsInBox (at s before) c place ⊎ IsAtFull (at s before) c place
asked-each s [] later c place p = p.0
asked-each s (DropOut d k ∷ before) later c place p = asked-each (after s (DropOut d k)) before later c place p.1
asked-each s (other ∷ before) later c place p = asked-each (after s other) before later c place p

-- Of what lands, and of what failures add.

pub all_land-asked : (s : HistoryState) → IsReached s → DropsAreAskedOrFull s (all_land s)
all_land-asked s h = lands-asked s h.clients h.fit

pub fail_backup-asked : (s : HistoryState) (kept : List Entry) → IsReached s → AreGuests kept → Legal s kept
    → DropsAreAskedOrFull s (fail_backup_entries s kept)
fail_backup-asked s kept h k legal =
    let t = at s kept in
    DropsAreAskedOrFull-append s kept (all_land t) (DropsAreAskedOrFull-guests s kept k) (all_land-asked t (reached s kept h legal))

pub alone_step-asked : (s : HistoryState) → IsReached s → DropsAreAskedOrFull s (alone_step_entries s)
alone_step-asked s h = all_land-asked (after s Ran) (reached s (Ran ∷ []) h (tt, tt))

-- Where each drop is of that kind, no frame that leaves is given up.

in_way-kept : (way : Way) (fs : List Frame) → is_given_up way ≡ false → All NotGivenUp (in_way way fs)
in_way-kept way [] e = All-nil NotGivenUp
in_way-kept way (f ∷ fs) e = All-cons NotGivenUp (way, f) (in_way way fs) e (in_way-kept way fs e)

land-kept : (c d : ℕ) (s : HistoryState) → All NotGivenUp (leaves_by c s (Land d))
land-kept c d s = by_test (d == c)
  where
    by_test : (t : Bool) → All NotGivenUp (cond t (in_way Landed (take 1 (out_of c s.out))) [])
    by_test true = in_way-kept Landed (take 1 (out_of c s.out)) refl
    by_test false = All-nil NotGivenUp

drop-kept : (c d place : ℕ) (s : HistoryState) → IsInBox s d place ⊎ IsAtFull s d place → All NotGivenUp (leaves_by c s (DropOut d place))
drop-kept c d place s why = by_test (d == c) (by_why why)
  where
    boxed : ℕ
    boxed = length (list_of s.boxes d)

    gone : List Frame
    gone = take 1 (drop (place - boxed) (out_of c s.out))

    by_why : IsInBox s d place ⊎ IsAtFull s d place → All NotGivenUp (cond (nat_lt place boxed) [] (in_way (drop_way place) gone))
    by_why (inl l) = rw (lt-ltb place boxed l) (All-nil NotGivenUp)
    by_why (inr f) = by_room (nat_lt place boxed) (in_way-kept (drop_way place) gone (rw f.0 refl))
      where
        by_room : (t : Bool) → All NotGivenUp (in_way (drop_way place) gone) → All NotGivenUp (cond t [] (in_way (drop_way place) gone))
        by_room true h = All-nil NotGivenUp
        by_room false h = h

    by_test : (t : Bool) → All NotGivenUp (cond (nat_lt place boxed) [] (in_way (drop_way place) gone))
        → All NotGivenUp (cond t (cond (nat_lt place boxed) [] (in_way (drop_way place) gone)) [])
    by_test true h = h
    by_test false h = All-nil NotGivenUp

pub none_given_up : (s : HistoryState) (es : List Entry) (c : ℕ) → DropsAreAskedOrFull s es → All NotGivenUp (leaving s es c)
none_given_up s [] c p = All-nil NotGivenUp
none_given_up s (Land d ∷ es) c p =
    let t = after s (Land d) in
    All-append NotGivenUp (leaves_by c s (Land d)) (leaving t es c) (land-kept c d s) (none_given_up t es c p)
none_given_up s (DropOut d place ∷ es) c p =
    let t = after s (DropOut d place) in
    All-append NotGivenUp (leaves_by c s (DropOut d place)) (leaving t es c) (drop-kept c d place s p.0) (none_given_up t es c p.1)
none_given_up s (other ∷ es) c p = none_given_up (after s other) es c p

pub asked_leave_in_order : (s : HistoryState) (es : List Entry) (c : ℕ) → IsFresh s → DropsAreAskedOrFull s es
    → sent_to s es c ≡ frames_left (leaving s es c) ++ out_of c (at s es).out
asked_leave_in_order s es c fresh p = all_leave_in_order s es c fresh (asked-known s es p)

-- What landed is what was released.

-- what landed of frames that left so
landed_so : (way : Way) (fs : List Frame) → frames_landed (in_way way fs) ≡ cond (has_landed way) fs []
landed_so Landed [] = refl
landed_so AtFull [] = refl
landed_so GivenUp [] = refl
landed_so Landed (f ∷ fs) = ap (λ gs. f ∷ gs) (landed_so Landed fs)
landed_so AtFull (f ∷ fs) = landed_so AtFull fs
landed_so GivenUp (f ∷ fs) = landed_so GivenUp fs

none_by_drop : (place : ℕ) → has_landed (drop_way place) ≡ false
none_by_drop place = by_test (place == box_frames)
  where
    by_test : (t : Bool) → has_landed (cond t AtFull GivenUp) ≡ false
    by_test true = refl
    by_test false = refl

one_landed : (c : ℕ) (s : HistoryState) (e : Entry) → frames_landed (leaves_by c s e) ≡ landed_by c s e
one_landed c s (Land d) = by_test (d == c) refl
  where
    by_test : (t : Bool) → (d == c) ≡ t
        → frames_landed (cond t (in_way Landed (take 1 (out_of c s.out))) []) ≡ cond t (take 1 (out_of d s.out)) []
    by_test true e = landed_so Landed (take 1 (out_of c s.out)) ∙ ap (λ k. take 1 (out_of k s.out)) (sym (eqb-true d c e))
    by_test false e = refl
one_landed c s (DropOut d place) = by_tests (d == c) (nat_lt place (length (list_of s.boxes d)))
  where
    gone : List Frame
    gone = take 1 (drop (place - length (list_of s.boxes d)) (out_of c s.out))

    by_tests : (own boxed : Bool) → frames_landed (cond own (cond boxed [] (in_way (drop_way place) gone)) []) ≡ []
    by_tests true true = refl
    by_tests true false = landed_so (drop_way place) gone ∙ ap (λ t. cond t gone []) (none_by_drop place)
    by_tests false boxed = refl
one_landed c s other = refl

landed-append : (xs ys : List (Way × Frame)) → frames_landed (xs ++ ys) ≡ frames_landed xs ++ frames_landed ys
landed-append xs ys =
    let test : Way × Frame → Bool = λ x. has_landed x.0 in
    ap frames_left (filter-append test xs ys) ∙ frames_left-append (filter test xs) (filter test ys)

pub landed_released : (s : HistoryState) (es : List Entry) (c : ℕ) → frames_landed (leaving s es c) ≡ released s es c
landed_released s [] c = refl
landed_released s (e ∷ es) c =
    landed-append (leaves_by c s e) (leaving (after s e) es c)
    ∙ ap (λ fs. fs ++ frames_landed (leaving (after s e) es c)) (one_landed c s e)
    ∙ ap (λ fs. landed_by c s e ++ fs) (landed_released (after s e) es c)

-- what `no_failure_loses_a_sent_frame` follows from
pub ruleset drop_laws = (
  asked_leave_in_order,
  none_given_up,
  landed_released,
  DropsAreAskedOrFull-append,
  DropsAreAskedOrFull-guests,
  at_full-asked,
  asked-each,
  all_land-asked,
  fail_backup-asked,
  alone_step-asked,
)
