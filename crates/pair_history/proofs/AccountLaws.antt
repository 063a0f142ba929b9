-- Laws of the accounts of clients: they are sound, and they are what the history's state says.
use Rattle.std.proofs.Common.{◌≡◌, ℕ, zero, suc, ◌+◌, ◌-◌, ◌<◌, ◌≤◌, List, [], ◌∷◌, ◌++◌, length, take, drop, remove, get_or, replicate}
use Rattle.std.proofs.Common.{refl, sym, ap, ◌∙◌, arith, append_assoc, cond, zero-add}
use Rattle.std.specs.Prelude.{slice_get, Some, None}
use Rattle.std.specs.List.{All, Contains, flat_map, count_by}
use Rattle.std.proofs.lemmas.Bool.Decides.{nat_tests}
use Rattle.std.proofs.lemmas.List.{append-nil, length-append, length-take, length-drop, take-append-drop, map-append, take-map, drop-map}
use Rattle.std.proofs.lemmas.List.{length-map, get_or_default}
use Rattle.std.proofs.lemmas.List.Edits.{length-remove}
use Rattle.std.proofs.lemmas.List.Sums.{sum_by-cons}
use Rattle.std.proofs.lemmas.List.Elements.{All-append, All-map}
use Rattle.frame_ports.specs.Lands.{list_of}
use Rattle.pair_history.specs.Entries.{Frame, Entry, Ran, Land, DropOut, Took}
use Rattle.pair_history.specs.HistoryState.{HistoryState, at, after, along, Allows, Legal, out_of}
use Rattle.pair_history.specs.Released.{frames_for, Sent, sent_at, frames, Effect, Sends, Lands, DropsBoxed, DropsOnWay, Takes, Nothing}
use Rattle.pair_history.specs.Released.{effect_on, Account, booked, goes_on, WasSent, IsSound, sent_for, landed_by, taken_by}
use Rattle.pair_history.specs.Released.{is_drop, IsFresh, empty_account, account, released, taken, dropped_count}
use Rattle.pair_history.specs.laws.Leaving.{out_of-append}
use Rattle.pair_history.specs.laws.ClientLists.{out_of-without, list_of-with}
use Rattle.pair_history.proofs.Parts.{part-trans, part-append, part-remove}

-- Soundness: each entry keeps it.

module _ {X : Type 0} where
  pub first-and-rest : (xs ys : List X) → (xs ++ take 1 ys) ++ drop 1 ys ≡ xs ++ ys
  first-and-rest xs ys = rw (append_assoc, take-append-drop)

  pub length-without : (xs : List X) (k : ℕ) → length (remove xs k) + length (take 1 (drop k xs)) ≡ length xs
  length-without xs k = simp (length-append, length-take, length-drop) (omega arith)

sound-booked : (place : ℕ) (e : Effect) (a : Account) → IsSound a → IsSound (booked place e a)
sound-booked place (Sends fs) a h =
    let more = part-append (a.released ++ a.on_way) a.sent (sent_at place fs) h.in_order in
    grind (arith, append_assoc a.released a.on_way (sent_at place fs), length-append)
sound-booked place Lands a h =
    let more = part-append (a.taken ++ a.boxed) a.released (take 1 a.on_way) h.taken_in_order in
    let first = first-and-rest a.released a.on_way in
    grind (arith, append_assoc a.taken a.boxed (take 1 a.on_way), length-append, length-without a.on_way 0)
sound-booked place (DropsBoxed k) a h =
    let less = part-trans (a.taken ++ remove a.boxed k) _ _ (part-remove a.taken a.boxed k) h.taken_in_order in
    grind (arith, length-append, length-without a.boxed k)
sound-booked place (DropsOnWay k) a h =
    let less = part-trans (a.released ++ remove a.on_way k) _ _ (part-remove a.released a.on_way k) h.in_order in
    grind (arith, length-append, length-without a.on_way k)
sound-booked place Takes a h =
    let first = first-and-rest a.taken a.boxed in
    grind (arith, length-append, length-without a.boxed 0)
sound-booked place Nothing a h = h

pub sound : (c : ℕ) (s : HistoryState) (place : ℕ) (a : Account) (es : List Entry) → IsSound a → IsSound (goes_on c s place a es)
sound c s place a [] h = h
sound c s place a (e ∷ es) h =
    sound c (after s e) (1 + place) (booked place (effect_on c s e) a) es (sound-booked place (effect_on c s e) a h)

pub account-append : (c : ℕ) (s : HistoryState) (place : ℕ) (a : Account) (es more : List Entry)
    → goes_on c s place a (es ++ more) ≡ goes_on c (at s es) (length es + place) (goes_on c s place a es) more
account-append c s place a [] more = rw zero-add
account-append c s place a (e ∷ es) more =
    let k : length es + (1 + place) ≡ length (e ∷ es) + place = omega arith in
    rw k at (account-append c (after s e) (1 + place) (booked place (effect_on c s e) a) es more)

-- what was released stays so
pub released_later : (c : ℕ) (s : HistoryState) (place : ℕ) (a : Account) (es : List Entry)
    → (later : List Sent) × ((goes_on c s place a es).released ≡ a.released ++ later)
released_later c s place a [] = ([], sym (append-nil a.released))
released_later c s place a (e ∷ es) =
    let one = by_effect (effect_on c s e) in
    let more = released_later c (after s e) (1 + place) (booked place (effect_on c s e) a) es in
    (one.0 ++ more.0, more.1 ∙ ap (λ ps. ps ++ more.0) one.1 ∙ append_assoc a.released one.0 more.0)
  where
    by_effect : (f : Effect) → (later : List Sent) × ((booked place f a).released ≡ a.released ++ later)
    by_effect Lands = (take 1 a.on_way, refl)
    by_effect other = ([], sym (append-nil a.released))

-- Each sent frame was sent by the step at its place.

sent-booked : (c : ℕ) (s : HistoryState) (place : ℕ) (a : Account) (e : Entry)
    → (booked place (effect_on c s e) a).sent ≡ a.sent ++ sent_at place (sent_for c s e)
sent-booked c s place a Ran = refl
sent-booked c s place a other = grind (arith, nat_tests, append-nil)

-- only a step sends
step_sends : (c : ℕ) (s : HistoryState) (e : Entry) (f : Frame) → Contains (sent_for c s e) f → (e ≡ Ran) × Contains (frames_for c s) f
step_sends c s Ran f h = (refl, h)
step_sends c s other f h = absurd (omega arith)

pub sent_by_steps : (c : ℕ) (s : HistoryState) (place : ℕ) (a : Account) (es : List Entry) (P : Sent → Type 0) → All P a.sent
    → ((k : ℕ) (f : Frame) → WasSent s es c (k, f) → P (place + k, f))
    → All P (goes_on c s place a es).sent
sent_by_steps c s place a [] P old new = old
sent_by_steps c s place a (e ∷ es) P old new =
    let fs = sent_for c s e in
    let same : place + 0 ≡ place = omega arith in
    let later : (k : ℕ) → place + suc k ≡ 1 + place + k = λ k. omega arith in
    let here : (f : Frame) → Contains fs f → P (place, f) =
    λ f h. let is = step_sends c s e f h in rw same at (new 0 f (record { step = ap (λ x. Some x) is.0; frame = is.1 })) in
    sent_by_steps c (after s e) (1 + place) (booked place (effect_on c s e) a) es P
    (rw (sent-booked c s place a e) (All-append P a.sent (sent_at place fs) old
    (All-map P (λ f. (place, f)) fs (λ k d l. here (get_or fs k d) (k, l, get_or_default fs k (get_or fs k d) d l)))))
    (λ k f h. rw (later k) at (new (suc k) f (record { step = h.step; frame = h.frame })))

-- The account's lists are the state's.

frames-append : (ps qs : List Sent) → frames (ps ++ qs) ≡ frames ps ++ frames qs
frames-append = map-append (λ p. p.1)

frames-take : (ps : List Sent) → frames (take 1 ps) ≡ take 1 (frames ps)
frames-take ps = sym (take-map (λ p. p.1) 1 ps)

frames-remove : (ps : List Sent) (k : ℕ) → frames (remove ps k) ≡ remove (frames ps) k
frames-remove ps k = rw (map-append, take-map, drop-map)

sent_at-frames : (place : ℕ) (fs : List Frame) → frames (sent_at place fs) ≡ fs
sent_at-frames place [] = refl
sent_at-frames place (f ∷ fs) = ap (λ gs. f ∷ gs) (sent_at-frames place fs)

ruleset frames_laws = (frames-append, frames-take, frames-remove)

pub sent-is : (c : ℕ) (s : HistoryState) (place : ℕ) (a : Account) (es : List Entry)
    → frames (goes_on c s place a es).sent ≡ frames a.sent ++ along (sent_for c) s es
sent-is c s place a [] = sym (append-nil (frames a.sent))
sent-is c s place a (e ∷ es) =
    sent-is c (after s e) (1 + place) (booked place (effect_on c s e) a) es
    ∙ rw (sent-booked c s place a e, frames-append, sent_at-frames) (append_assoc (frames a.sent) (sent_for c s e) _)

-- what is on its way, and what landed
pub record OnWay (a b : Account) (way landed : List Frame) : Type 0 where
  pub on_way : frames b.on_way ≡ way
  pub released : frames b.released ≡ frames a.released ++ landed

on_way-booked : (c : ℕ) (s : HistoryState) (place : ℕ) (a : Account) (e : Entry) → frames a.on_way ≡ out_of c s.out
    → OnWay a (booked place (effect_on c s e) a) (out_of c (after s e).out) (landed_by c s e)
on_way-booked c s place a Ran h =
    record { on_way = rw (frames-append, sent_at-frames, out_of-append, h); released = sym (append-nil (frames a.released)) }
on_way-booked c s place a (Land d) h = grind (arith, nat_tests, append-nil, frames_laws, out_of-without c d 0 s.out)
on_way-booked c s place a (DropOut d k) h =
    grind (arith, nat_tests, append-nil, frames_laws, out_of-without c d (k - length (list_of s.boxes d)) s.out)
on_way-booked c s place a other h = grind (arith, nat_tests, append-nil)

on_way-is : (c : ℕ) (s : HistoryState) (place : ℕ) (a : Account) (es : List Entry) → frames a.on_way ≡ out_of c s.out
    → OnWay a (goes_on c s place a es) (out_of c (at s es).out) (along (landed_by c) s es)
on_way-is c s place a [] h = record { on_way = h; released = sym (append-nil (frames a.released)) }
on_way-is c s place a (e ∷ es) h =
    let one = on_way-booked c s place a e h in
    let more = on_way-is c (after s e) (1 + place) (booked place (effect_on c s e) a) es one.on_way in
    record { on_way = more.on_way; released = more.released ∙ rw one.released (append_assoc (frames a.released) (landed_by c s e) _) }

-- what lies in the box, what was taken, and how many were dropped
pub record Boxed (a b : Account) (box took : List Frame) (drops : ℕ) : Type 0 where
  pub boxed : frames b.boxed ≡ box
  pub taken : frames b.taken ≡ frames a.taken ++ took
  pub dropped : length b.dropped ≡ length a.dropped + drops

length-one : {X : Type 0} (xs : List X) (k : ℕ) → k < length xs → length (take 1 (drop k xs)) ≡ 1
length-one xs k l = omega (arith, length-without xs k, length-remove xs k l)

first_of : (fs : List Frame) (f : Frame) → slice_get fs 0 ≡ Some f → f ∷ [] ≡ take 1 fs
first_of [] f e = absurd (cc)
first_of (g ∷ fs) f e = cc

module _ (c : ℕ) (s : HistoryState) (place : ℕ) (a : Account) (low : 1 ≤ c) (way : frames a.on_way ≡ out_of c s.out)
    (box : frames a.boxed ≡ list_of s.boxes c) where
  boxed-booked : (e : Entry) → Allows s e
      → Boxed a (booked place (effect_on c s e) a) (list_of (after s e).boxes c) (taken_by c e) (cond (is_drop c e) 1 0)
  boxed-booked (Land d) p =
      let there = list_of-with s.boxes c d (list_of s.boxes d ++ take 1 (out_of d s.out)) low p.0.0 p.0.1 in
      grind (arith, nat_tests, append-nil, frames_laws)
  boxed-booked (DropOut d k) p =
      let there = list_of-with s.boxes c d (remove (list_of s.boxes d) k) low p.0.0 p.0.1 in
      let boxed : length a.boxed ≡ length (list_of s.boxes c) = sym (length-map a.boxed (λ p. p.1)) ∙ ap length box in
      let on_way : length a.on_way ≡ length (out_of c s.out) = sym (length-map a.on_way (λ p. p.1)) ∙ ap length way in
      let one = length-one a.on_way (k - length (list_of s.boxes d)) in
      grind (arith, nat_tests, append-nil, frames_laws, length-append, length-one a.boxed k)
  boxed-booked (Took d (Some f)) p =
      let there = list_of-with s.boxes c d (drop 1 (list_of s.boxes d)) low p.0.0 p.0.1 in
      grind (arith, nat_tests, append-nil, frames_laws, first_of (list_of s.boxes d) f p.1)
  boxed-booked (Took d None) p =
      let there = list_of-with s.boxes c d (drop 1 (list_of s.boxes d)) low p.0.0 p.0.1 in
      grind (arith, nat_tests, append-nil, frames_laws)
  boxed-booked other p = record { boxed = box; taken = sym (append-nil (frames a.taken)); dropped = omega arith }

boxed-is : (c : ℕ) (s : HistoryState) (place : ℕ) (a : Account) (es : List Entry) → 1 ≤ c → Legal s es
    → frames a.on_way ≡ out_of c s.out → frames a.boxed ≡ list_of s.boxes c
    → Boxed a (goes_on c s place a es) (list_of (at s es).boxes c) (flat_map (taken_by c) es) (count_by (is_drop c) es)
boxed-is c s place a [] low legal way box = record { boxed = box; taken = sym (append-nil (frames a.taken)); dropped = omega arith }
boxed-is c s place a (e ∷ es) low legal way box =
    let one = boxed-booked c s place a low way box e legal.0 in
    let b = booked place (effect_on c s e) a in
    let more = boxed-is c (after s e) (1 + place) b es low legal.1 (on_way-booked c s place a e way).on_way one.boxed in
    record {
      boxed = more.boxed;
      taken = more.taken ∙ rw one.taken (append_assoc (frames a.taken) (taken_by c e) _);
      dropped = omega (arith, sum_by-cons (λ x. cond (is_drop c x) 1 0) e es, more.dropped, one.dropped);
    }

-- a pair starts with nothing on its way and empty boxes

empty_box : (clients place : ℕ) → get_or {A = List Frame} (replicate clients []) place [] ≡ []
empty_box zero place = refl
empty_box (suc clients) zero = refl
empty_box (suc clients) (suc place) = empty_box clients place

pub start_fresh : (s : HistoryState) (clients : ℕ) → s.out ≡ [] → s.boxes ≡ replicate clients [] → IsFresh s
start_fresh s clients out boxes = record { out = out; boxes = λ c. rw boxes (empty_box clients (c - 1)) }

-- so the lists of an account from there on are those that the state and the entries say

pub on_way_fresh : (s : HistoryState) (es : List Entry) (c : ℕ) → IsFresh s
    → OnWay empty_account (account s es c) (out_of c (at s es).out) (released s es c)
on_way_fresh s es c fresh = on_way-is c s 0 empty_account es (ap (out_of c) (sym fresh.out))

pub boxed_fresh : (s : HistoryState) (es : List Entry) (c : ℕ) → IsFresh s → Legal s es → 1 ≤ c
    → Boxed empty_account (account s es c) (list_of (at s es).boxes c) (taken es c) (dropped_count es c)
boxed_fresh s es c fresh legal low = boxed-is c s 0 empty_account es low legal (ap (out_of c) (sym fresh.out)) (sym (fresh.boxes c))

-- for the clauses of `released_frames_were_sent` that have no answer
pub ruleset account_laws = (sent-is, account-append, on_way_fresh, boxed_fresh, start_fresh)
