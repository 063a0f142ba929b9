-- A client's entries in the history are those that its own steps announced.
use Rattle.std.proofs.Common.{◌≡◌, ℕ, zero, suc, ◌+◌, ◌≤◌, List, [], ◌∷◌, ◌++◌, map, take, drop, refl, sym, ap, ◌∙◌}
use Rattle.std.proofs.Common.{subst, cond, arith}
use Rattle.std.proofs.Common.{Bool, true, false, eq-eqb, ne_eqb}
use Rattle.std.specs.Prelude.{◌==◌, nat_lt}
use Rattle.std.proofs.lemmas.List.{append-nil}
use mathlib.Core.Logic.{dite}
use native.Mathlib.Decide.{ℕ_discrete}
use Rattle.frame_ports.specs.Lands.{has_room, landed_at}
use Rattle.frame_ports.specs.Limits.{box_frames}
use Rattle.pair_history.specs.Entries.{Frame, Entry, Ran, Arrive, Delivered, Refused, DropIn, Land, DropOut, Took}
use Rattle.pair_history.specs.HistoryState.{HistoryState, at}
use Rattle.pair_history.specs.Order.{AreGuests}
use Rattle.pair_history.specs.Landings.{landings}
use Rattle.pair_history.specs.Failures.{all_land, drops_of_taken_in, rising, arrived_numbers}
use Rattle.growing_history.specs.Steps.{What, Added, Sealed, RanAlone, Committed, PrimaryFailed, BackupFailed, WentLive, Protected, Step}
use Rattle.growing_history.specs.Steps.{steps_by}
use Rattle.growing_history.specs.LogState.{LogState, Epoch, start_of, entries_of, under_way, added, after_step, IsOwn, AreOwn, MayStep}
use Rattle.growing_history.specs.LogState.{client_seat, LegalFrom, history_from, LegalSteps, history_of}
use Rattle.pair_history.specs.laws.Histories.{guests-first}
use Rattle.growing_history.specs.Entries.{is_of, own_entries, announced_in, announced}
use Rattle.growing_history.specs.laws.Sealed.{sealed-guests}

own-append : (c : ℕ) (xs ys : List Entry) → own_entries c (xs ++ ys) ≡ own_entries c xs ++ own_entries c ys
own-append c [] ys = refl
own-append c (e ∷ xs) ys = by_test (is_of c e) (own-append c xs ys)
  where
    by_test : (t : Bool) → own_entries c (xs ++ ys) ≡ own_entries c xs ++ own_entries c ys
        → cond t (e ∷ own_entries c (xs ++ ys)) (own_entries c (xs ++ ys)) ≡ cond t (e ∷ own_entries c xs)
        (own_entries c xs) ++ own_entries c ys
    by_test true is = ap (λ l. e ∷ l) is
    by_test false is = is

none-joined : (c : ℕ) (xs ys : List Entry) → own_entries c xs ≡ [] → own_entries c ys ≡ [] → own_entries c (xs ++ ys) ≡ []
none-joined c xs ys a b = own-append c xs ys ∙ (ap (λ l. l ++ own_entries c ys) a ∙ b)

-- what the guest does, what lands and what is dropped is no client's own
guests-none : (c : ℕ) (es : List Entry) → AreGuests es → own_entries c es ≡ []
guests-none c [] g = refl
guests-none c (Ran ∷ es) g = guests-none c es g.1
guests-none c (Arrive n ∷ es) g = guests-none c es g.1
guests-none c (Delivered d f n ∷ es) g = absurd g.0
guests-none c (Refused d f ∷ es) g = absurd g.0
guests-none c (DropIn n ∷ es) g = absurd g.0
guests-none c (Land d ∷ es) g = absurd g.0
guests-none c (DropOut d place ∷ es) g = absurd g.0
guests-none c (Took d answer ∷ es) g = absurd g.0

landings-none : (c : ℕ) (boxes : List (List Frame)) (ps : List (ℕ × Frame)) → own_entries c (landings boxes ps) ≡ []
landings-none c boxes [] = refl
landings-none c boxes (p ∷ ps) = by_test (has_room boxes p.0) (landings-none c (landed_at boxes p.0 p.1) ps)
  where
    by_test : (t : Bool) → own_entries c (landings (landed_at boxes p.0 p.1) ps) ≡ []
        → own_entries c (cond t (Land p.0) (DropOut p.0 box_frames) ∷ landings (landed_at boxes p.0 p.1) ps) ≡ []
    by_test true is = is
    by_test false is = is

all_land-none : (c : ℕ) (h : HistoryState) → own_entries c (all_land h) ≡ []
all_land-none c h = landings-none c h.boxes h.out

drops-none : (c : ℕ) (ns : List ℕ) → own_entries c (map DropIn ns) ≡ []
drops-none c [] = refl
drops-none c (n ∷ ns) = drops-none c ns

-- a client's own entry is one of its seat's, and no other is
own-is : (c by : ℕ) (e : Entry) → 1 ≤ c → IsOwn by e → is_of c e ≡ (by == client_seat c)
own-is c by Ran p o = absurd o
own-is c by (Arrive n) p o = absurd o
own-is c by (Delivered d f n) p o = same c d by o
  where
    same : (c d by : ℕ) → by ≡ d + 3 → (d == c) ≡ (by == c + 3)
    same c d by is = dite (ℕ_discrete d c)
        (λ e. eq-eqb d c e ∙ sym (eq-eqb by (c + 3) (omega (arith, is, e))))
        (λ ne. ne_eqb d c ne ∙ sym (ne_eqb by (c + 3) (λ e. ne (omega (arith, is, e)))))
own-is c by (Refused d f) p o = same c d by o
  where
    same : (c d by : ℕ) → by ≡ d + 3 → (d == c) ≡ (by == c + 3)
    same c d by is = dite (ℕ_discrete d c)
        (λ e. eq-eqb d c e ∙ sym (eq-eqb by (c + 3) (omega (arith, is, e))))
        (λ ne. ne_eqb d c ne ∙ sym (ne_eqb by (c + 3) (λ e. ne (omega (arith, is, e)))))
own-is c by (Took d answer) p o = same c d by o
  where
    same : (c d by : ℕ) → by ≡ d + 3 → (d == c) ≡ (by == c + 3)
    same c d by is = dite (ℕ_discrete d c)
        (λ e. eq-eqb d c e ∙ sym (eq-eqb by (c + 3) (omega (arith, is, e))))
        (λ ne. ne_eqb d c ne ∙ sym (ne_eqb by (c + 3) (λ e. ne (omega (arith, is, e)))))
own-is c by (DropIn n) p o = sym (ne_eqb by (c + 3) (λ e. omega (arith, o, e, p)))
own-is c by (Land d) p o = sym (ne_eqb by (c + 3) (λ e. omega (arith, o, e, p)))
own-is c by (DropOut d place) p o = by_test (nat_lt place box_frames) o
  where
    by_test : (t : Bool) → by ≡ cond t 3 0 → false ≡ (by == c + 3)
    by_test true is = sym (ne_eqb by (c + 3) (λ e. omega (arith, is, e, p)))
    by_test false is = sym (ne_eqb by (c + 3) (λ e. omega (arith, is, e, p)))

own-added : (c by : ℕ) (es : List Entry) → 1 ≤ c → AreOwn by es → own_entries c es ≡ cond (by == client_seat c) es []
own-added c by es p o = by_test (by == client_seat c) refl
  where
    all : (es : List Entry) → AreOwn by es → (by == client_seat c) ≡ true → own_entries c es ≡ es
    all [] o is = refl
    all (e ∷ es) o is = ap (λ t. cond t (e ∷ own_entries c es) (own_entries c es)) (own-is c by e p o.0 ∙ is)
        ∙ ap (λ l. e ∷ l) (all es o.1 is)

    none : (es : List Entry) → AreOwn by es → (by == client_seat c) ≡ false → own_entries c es ≡ []
    none [] o is = refl
    none (e ∷ es) o is = ap (λ t. cond t (e ∷ own_entries c es) (own_entries c es)) (own-is c by e p o.0 ∙ is) ∙ none es o.1 is

    by_test : (t : Bool) → (by == client_seat c) ≡ t → own_entries c es ≡ cond t es []
    by_test true is = all es o is
    by_test false is = none es o is

first-guests : (es : List Epoch) → AreGuests (entries_of es) → AreGuests (entries_of (take 1 es))
first-guests [] g = tt
first-guests (e ∷ es) g = subst AreGuests (sym (append-nil e.entries)) (guests-first e.entries (entries_of es) g)

off_if : (t : Bool) → [] ≡ cond t (announced_in PrimaryFailed) []
off_if true = refl
off_if false = refl

-- one step
added-own : (c : ℕ) (s : LogState) (by : ℕ) (w : What) → 1 ≤ c → MayStep s by w → AreGuests (entries_of s.sealed)
    → own_entries c (added s w) ≡ cond (by == client_seat c) (announced_in w) []
added-own c s by (Added es) p m g = own-added c by es p m
added-own c s by (Sealed x zero epoch text) p m g = none-joined c epoch (all_land (at s.history epoch)) (guests-none c epoch m.4.0)
    (all_land-none c (at s.history epoch)) ∙ off_if (by == client_seat c)
added-own c s by (Sealed x (suc n) epoch text) p m g = off_if (by == client_seat c)
added-own c s by (RanAlone epoch) p m g = none-joined c epoch (all_land (at s.history epoch)) (guests-none c epoch m.2.0)
    (all_land-none c (at s.history epoch)) ∙ off_if (by == client_seat c)
added-own c s by (Committed x n text) p m g = guests-none c (entries_of (take 1 s.sealed)) (first-guests s.sealed g)
    ∙ off_if (by == client_seat c)
added-own c s by PrimaryFailed p m g = off_if (by == client_seat c)
added-own c s by BackupFailed p m g =
    none-joined c (entries_of s.sealed) (all_land (at s.history (entries_of s.sealed))) (guests-none c (entries_of s.sealed) g)
    (all_land-none c (at s.history (entries_of s.sealed))) ∙ off_if (by == client_seat c)
added-own c s by (WentLive r) p m g =
    none-joined c (drops_of_taken_in (under_way s)) (all_land s.history) (drops-none c (rising (arrived_numbers (under_way s))))
    (all_land-none c s.history) ∙ off_if (by == client_seat c)
added-own c s by (Protected b) p m g = off_if (by == client_seat c)

-- all steps
all-own : (c : ℕ) (s : LogState) (xs : List Step) → 1 ≤ c → LegalFrom s xs → AreGuests (entries_of s.sealed)
    → own_entries c (history_from s xs) ≡ announced (steps_by (client_seat c) xs)
all-own c s [] p l g = refl
all-own c s (x ∷ xs) p l g =
    own-append c (added s x.what) (history_from (after_step s x.what) xs)
    ∙ (ap (λ es. es ++ own_entries c (history_from (after_step s x.what) xs)) (added-own c s x.by x.what p l.0.may g)
    ∙ (ap (λ es. cond (x.by == client_seat c) (announced_in x.what) [] ++ es)
    (all-own c (after_step s x.what) xs p l.1 (sealed-guests s x.by x.what l.0.may g))
    ∙ by_test (x.by == client_seat c)))
  where
    by_test : (t : Bool) → cond t (announced_in x.what) [] ++ announced (steps_by (client_seat c) xs)
        ≡ announced (cond t (x ∷ steps_by (client_seat c) xs) (steps_by (client_seat c) xs))
    by_test true = refl
    by_test false = refl

pub history-own : (h : HistoryState) (xs : List Step) (c : ℕ) → 1 ≤ c → LegalSteps h xs
    → own_entries c (history_of h xs) ≡ announced (steps_by (client_seat c) xs)
unfolding LegalSteps history_of
history-own h xs c p l = all-own c (start_of h) xs p l tt
