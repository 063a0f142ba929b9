-- What failures add to a history is legal; the state that it leads to, and what leaves for each client.
use Rattle.std.proofs.Common.{◌≡◌, ℕ, ◌+◌, ◌-◌, ◌*◌, ◌≤◌, List, [], ◌∷◌, ◌++◌, length, map, refl, sym, ◌∙◌, arith, mul-le-mul_right}
use Rattle.std.proofs.{Common.{Bool, true, false, cond}, lemmas.List.{append-nil, length-append, length-map}}
use Rattle.std.proofs.lemmas.List.Sorted.{length_permutation}
use Rattle.std.specs.Prelude.{◌==◌, nat_lt}
use Rattle.guest_rules.specs.Step.{next, sent}
use Rattle.frame_ports.specs.{Addresses.targets_of, Lands.{list_of, has_room, landed_at, lands}, Limits.box_frames}
use Rattle.frame_ports.specs.laws.Addresses.{length-targets_of}
use Rattle.pair_history.specs.{Entries.{Frame, Entry, Ran, Arrive, DropIn, Land, DropOut}, HistoryState.{HistoryState, at, after, Legal}}
use Rattle.pair_history.specs.{Landings.{landings}}
use Rattle.pair_history.specs.{Reached.IsReached, Released.{Lands, DropsBoxed, DropsOnWay, Nothing, effect_on, Account, empty_account}}
use Rattle.pair_history.specs.{Released.{booked, goes_on, account}, Failures.{arrived_numbers, rising, drops_of_taken_in}}
use Rattle.pair_history.specs.Failures.{go_live_entries, all_land, fail_backup_entries, alone_step_entries}
use Rattle.pair_history.specs.laws.{Histories.{at-append, Legal-append}, Landings.{landings-land, length-landings}}
use Rattle.pair_history.specs.laws.{TakenIn.{taken_in_dropped, at-drops_in, kept_boxes, taken_in_rises}}
use Rattle.pair_history.specs.laws.{Sorted.IsPermutation-rising, GoingLive.{goes_live, go_live_leaves, go_live_numbers}}
use Rattle.pair_history.proofs.{AccountLaws.account-append, ReachedLaws.reached}

-- The backup goes live.

pub go_live_count : (s : HistoryState) (kept : List Entry)
    → length (go_live_entries s kept) ≡ length (arrived_numbers kept) + length s.out
go_live_count s kept =
    let ns = arrived_numbers kept in
    let same = length_permutation ns (rising ns) (IsPermutation-rising ns) in
    rw (length-append, length-map) (omega (arith, length-landings s.boxes s.out))

-- two clients, the first of whom has a full box, and a frame on its way to the first between two to the second
pub two_clients : (s : HistoryState) (b : List Frame) (f g h : Frame) → length b ≡ box_frames → s.boxes ≡ b ∷ [] ∷ []
    → s.out ≡ (2, f) ∷ (1, g) ∷ (2, h) ∷ []
    → go_live_entries s (Ran ∷ Arrive 5 ∷ Ran ∷ Arrive 3 ∷ []) ≡ DropIn 3 ∷ DropIn 5 ∷ Land 2 ∷ DropOut 1 256 ∷ Land 2 ∷ []
two_clients s b f g h full boxes out = rw (boxes, out, full) refl

-- What was sent to a client and what it took stay in its account.

abbrev pub Stays : Account → Account → Type 0
Stays a b = (b.sent ≡ a.sent) × (b.taken ≡ a.taken)

drops_in-unseen : (c : ℕ) (s : HistoryState) (place : ℕ) (a : Account) (ns : List ℕ) → goes_on c s place a (map DropIn ns) ≡ a
drops_in-unseen c s place a [] = refl
drops_in-unseen c s place a (n ∷ ns) = drops_in-unseen c (after s (DropIn n)) (1 + place) a ns

land-stays : (c d place : ℕ) (s : HistoryState) (a : Account) → Stays a (booked place (effect_on c s (Land d)) a)
land-stays c d place s a = by_test (d == c)
  where
    by_test : (own : Bool) → Stays a (booked place (cond own Lands Nothing) a)
    by_test true = (refl, refl)
    by_test false = (refl, refl)

drop-stays : (c d k place : ℕ) (s : HistoryState) (a : Account) → Stays a (booked place (effect_on c s (DropOut d k)) a)
drop-stays c d k place s a = by_test (d == c) (nat_lt k (length (list_of s.boxes d)))
  where
    by_test : (own boxed : Bool) → Stays a
        (booked place (cond own (cond boxed (DropsBoxed k) (DropsOnWay (k - length (list_of s.boxes d)))) Nothing) a)
    by_test true true = (refl, refl)
    by_test true false = (refl, refl)
    by_test false boxed = (refl, refl)

landed-stays : (c : ℕ) (boxes : List (List Frame)) (ps : List (ℕ × Frame)) (s : HistoryState) (place : ℕ) (a : Account)
    → Stays a (goes_on c s place a (landings boxes ps))
landed-stays c boxes [] s place a = (refl, refl)
landed-stays c boxes (p ∷ ps) s place a =
    by_room (λ t b. landed-stays c (landed_at boxes p.0 p.1) ps t (1 + place) b) (has_room boxes p.0)
  where
    by_room : ((t : HistoryState) (b : Account) → Stays b (goes_on c t (1 + place) b (landings (landed_at boxes p.0 p.1) ps)))
        → (room : Bool)
        → Stays a (goes_on c s place a (cond room (Land p.0) (DropOut p.0 box_frames) ∷ landings (landed_at boxes p.0 p.1) ps))
    by_room more true =
        let b = booked place (effect_on c s (Land p.0)) a in
        let one = land-stays c p.0 place s a in
        let rest = more (after s (Land p.0)) b in
        (rest.0 ∙ one.0, rest.1 ∙ one.1)
    by_room more false =
        let b = booked place (effect_on c s (DropOut p.0 box_frames)) a in
        let one = drop-stays c p.0 box_frames place s a in
        let rest = more (after s (DropOut p.0 box_frames)) b in
        (rest.0 ∙ one.0, rest.1 ∙ one.1)

pub go_live_stays : (s : HistoryState) (es kept : List Entry) (c : ℕ)
    → Stays (account s es c) (account s (es ++ go_live_entries (at s es) kept) c)
go_live_stays s es kept c =
    let t = at s es in
    let a = account s es c in
    let ns = rising (arrived_numbers kept) in
    let place = length es + 0 in
    rw (
      account-append c s 0 empty_account es (go_live_entries t kept),
      account-append c t place a (drops_of_taken_in kept) (all_land t),
      drops_in-unseen c t place a ns,
    ) (landed-stays c t.boxes t.out (at t (drops_of_taken_in kept)) (length (drops_of_taken_in kept) + place) a)

-- All that is on its way lands.

pub all_landed : (s : HistoryState) → IsReached s
    → Legal s (all_land s) × (at s (all_land s) ≡ record s { out = []; boxes = lands s.boxes s.out })
all_landed s h =
    let land = landings-land s s.out [] (sym (append-nil s.out)) h.clients h.fit in
    (land.0, land.1)

-- The backup fails.

pub fails_backup : (s : HistoryState) (kept : List Entry) → IsReached s → Legal s kept
    → Legal s (fail_backup_entries s kept)
    × (at s (fail_backup_entries s kept) ≡ record (at s kept) { out = []; boxes = lands (at s kept).boxes (at s kept).out })
fails_backup s kept h legal =
    let t = at s kept in
    let land = all_landed t (reached s kept h legal) in
    (Legal-append s kept (all_land t) legal land.0, at-append s kept (all_land t) ∙ land.1)

pub fail_backup_count : (s : HistoryState) (kept : List Entry)
    → length (fail_backup_entries s kept) ≡ length kept + length (at s kept).out
fail_backup_count s kept =
    let t = at s kept in
    omega (arith, length-append kept (all_land t), length-landings t.boxes t.out)

-- what `failing_backup_lets_all_land` follows from
pub ruleset fail_backup_laws = (fails_backup, fail_backup_count, kept_boxes)

-- A node that is alone makes a step.

pub steps_alone : (s : HistoryState) → IsReached s → s.out ≡ [] → Legal s (alone_step_entries s)
    × (at s (alone_step_entries s) ≡ record s { guest = next s.guest; boxes = lands s.boxes (targets_of (length s.boxes) (sent s.guest)) })
steps_alone s h none =
    let land = all_landed (after s Ran) (reached s (Ran ∷ []) h (tt, tt)) in
    ((tt, land.0), land.1 ∙ rw none)

pub alone_step_is : (s : HistoryState) → s.out ≡ []
    → alone_step_entries s ≡ Ran ∷ landings s.boxes (targets_of (length s.boxes) (sent s.guest))
alone_step_is s none = rw none

pub alone_step_most : (s : HistoryState) → s.out ≡ [] → length (sent s.guest) ≤ 64
    → length (alone_step_entries s) ≤ 1 + 64 * length s.boxes
alone_step_most s none few =
    let n = length s.boxes in
    let most : length (sent s.guest) * n ≤ 64 * n = mul-le-mul_right n few in
    rw none (omega (arith, length-targets_of n (sent s.guest), length-landings s.boxes (targets_of n (sent s.guest))))

-- for the clauses of `steps_alone_land_at_once` that have no answer
pub ruleset alone_laws = (steps_alone, alone_step_is, alone_step_most)

-- for the clauses of `going_live_lands_what_is_owed` that have no answer
pub ruleset go_live_laws = (
  goes_live,
  go_live_numbers,
  go_live_leaves,
  go_live_count,
  go_live_stays,
  IsPermutation-rising,
  taken_in_rises,
  two_clients,
)
