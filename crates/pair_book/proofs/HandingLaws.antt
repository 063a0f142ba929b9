-- Laws of handing out.
use Rattle.std.proofs.Common.{◌≡◌, ℕ, zero, suc, ◌+◌, ◌-◌, ◌≤◌, List, [], ◌∷◌, ◌++◌, length, take, drop, refl, sym, ap, ◌∙◌}
use Rattle.std.proofs.Common.{subst, arith}
use Rattle.std.proofs.Common.{◌≢◌, map, append_assoc, None, Some}
use mathlib.Core.Logic.{dite}
use native.Mathlib.Decide.{ℕ_discrete}
use Rattle.std.proofs.lemmas.List.{get_or-set_same, get_or-set_other, length-append, length-set, append-nil, map-append, take-append-drop}
use Rattle.std.specs.Prelude.{slice_get}
use Rattle.frame_ports.specs.{Lands.list_of, Ports.PortsState}
use Rattle.pair_history.specs.Entries.{Frame, Arrive}
use Rattle.pair_record.specs.Journal.{Journal, all_entries, joined, with_running}
use Rattle.pair_record.specs.{Record.ports_after_admit}
use Rattle.pair_book.specs.Handing.{Handing, handed_one, handed_all, handed_out, firsts}
use Rattle.pair_book.specs.Handing.{arrivals_of, with_arrivals, HandsOut, HandsOutFirsts}

-- a list whose first is x
starts : {A : Type 0} (n : ℕ) (xs : List A) (x : A) → slice_get xs 0 ≡ Some x → take (suc n) xs ≡ x ∷ take n (drop 1 xs)
starts n [] x e = absurd (cc)
starts n (y ∷ xs) x e = let same : y ≡ x = cc in ap (λ z. z ∷ take n xs) same

-- a list that has none
pub none-more : {A : Type 0} (n : ℕ) (xs : List A) → slice_get xs 0 ≡ None → take n xs ≡ []
none-more zero [] e = refl
none-more (suc n) [] e = refl
none-more n (y ∷ xs) e = absurd (cc)

-- a client's inbox once its first frame was handed out
pub rest-of : (p : PortsState) (c : ℕ) → 1 ≤ c → c ≤ length p.inboxes
    → list_of (ports_after_admit p c).inboxes c ≡ drop 1 (list_of p.inboxes c)
rest-of p c low high = get_or-set_same p.inboxes (c - 1) (drop 1 (list_of p.inboxes c)) [] (omega (arith, low, high))

-- once one frame was handed out, the rest of so many are
pub one-more : (h new : Handing) (c n : ℕ) (x : ℕ × Frame) → 1 ≤ c → c ≤ length h.ports.inboxes
    → slice_get (list_of h.ports.inboxes c) 0 ≡ Some x → new ≡ handed_one c x h
    → handed_all c (take n (list_of new.ports.inboxes c)) new ≡ handed_all c (take (suc n) (list_of h.ports.inboxes c)) h
one-more h new c n x low high first is =
    let inbox = list_of h.ports.inboxes c in
    let rest = rest-of h.ports c low high in
    (λ i. handed_all c (take n (list_of (is i).ports.inboxes c)) (is i))
    ∙ ap (λ l. handed_all c (take n l) (handed_one c x h)) rest
    ∙ ap (λ l. handed_all c l h) (sym (starts n inbox x first))

-- an arrival is one entry more
pub one-entry : (j : Journal) (n : ℕ) → length (all_entries (with_running j (Arrive n ∷ []))) ≡ length (all_entries j) + 1
one-entry j n =
    let a = length-append j.history (joined j.sealed ++ (j.running ++ Arrive n ∷ [])) in
    let b = length-append (joined j.sealed) (j.running ++ Arrive n ∷ []) in
    let c = length-append j.running (Arrive n ∷ []) in
    let d = length-append j.history (joined j.sealed ++ j.running) in
    let e = length-append (joined j.sealed) j.running in
    omega (arith, a, b, c, d, e)

-- WHAT IS HANDED OUT, whole

arrivals-append : (xs ys : List (ℕ × Frame)) → arrivals_of (xs ++ ys) ≡ arrivals_of xs ++ arrivals_of ys
arrivals-append xs ys =
    let number = λ (x : ℕ × Frame). x.0 in
    ap (map Arrive) (map-append number xs ys) ∙ map-append Arrive (map number xs) (map number ys)

hands-none : (h : Handing) → HandsOut h [] h
hands-none h = record {
  protocol = λ i. record h.protocol { journal = record h.protocol.journal { running = sym (append-nil h.protocol.journal.running) i } };
  frames = sym (append-nil h.frames);
  next = refl;
  boxes = refl;
  numbers = refl;
  count = refl;
}

hands-one : (c : ℕ) (x : ℕ × Frame) (h : Handing) → HandsOut h (x ∷ []) (handed_one c x h)
hands-one c x h = record {
  protocol = refl;
  frames = refl;
  next = refl;
  boxes = refl;
  numbers = refl;
  count = length-set h.ports.inboxes (c - 1) (drop 1 (list_of h.ports.inboxes c));
}

hands-then : (h a b : Handing) (xs ys : List (ℕ × Frame)) → HandsOut h xs a → HandsOut a ys b → HandsOut h (xs ++ ys) b
hands-then h a b xs ys first second =
    let j = h.protocol.journal in
    let runs : (j.running ++ arrivals_of xs) ++ arrivals_of ys ≡ j.running ++ arrivals_of (xs ++ ys) =
    append_assoc j.running (arrivals_of xs) (arrivals_of ys) ∙ ap (λ l. j.running ++ l) (sym (arrivals-append xs ys)) in
    record {
      protocol =
          second.protocol ∙ ap (with_arrivals ys) first.protocol ∙ (λ i. record h.protocol { journal = record j { running = runs i } });
      frames = second.frames ∙ ap (λ l. l ++ ys) first.frames ∙ append_assoc h.frames xs ys;
      next = second.next ∙ first.next;
      boxes = second.boxes ∙ first.boxes;
      numbers = second.numbers ∙ first.numbers;
      count = second.count ∙ first.count;
    }

pub hands-all : (c : ℕ) (xs : List (ℕ × Frame)) (h : Handing) → HandsOut h xs (handed_all c xs h)
hands-all c [] h = hands-none h
hands-all c (x ∷ xs) h =
    hands-then h (handed_one c x h) (handed_all c xs (handed_one c x h)) (x ∷ []) xs (hands-one c x h) (hands-all c xs (handed_one c x h))

-- client c's inbox has lost them, and no other's
loses : (c : ℕ) (xs later : List (ℕ × Frame)) (h : Handing) → 1 ≤ c → c ≤ length h.ports.inboxes
    → list_of h.ports.inboxes c ≡ xs ++ later → list_of (handed_all c xs h).ports.inboxes c ≡ later
loses c [] later h low high is = is
loses c (x ∷ xs) later h low high is =
    let same = (hands-one c x h).count in
    loses c xs later (handed_one c x h) low (omega (arith, high, same)) (rest-of h.ports c low high ∙ ap (drop 1) is)

stays : (c d : ℕ) (xs : List (ℕ × Frame)) (h : Handing) → 1 ≤ c → 1 ≤ d → d ≢ c
    → list_of (handed_all c xs h).ports.inboxes d ≡ list_of h.ports.inboxes d
stays c d [] h low there other = refl
stays c d (x ∷ xs) h low there other =
    let apart : d - 1 ≢ c - 1 = λ (e : d - 1 ≡ c - 1). other (omega (arith, e, low, there)) in
    stays c d xs (handed_one c x h) low there other
    ∙ get_or-set_other h.ports.inboxes (c - 1) (d - 1) (drop 1 (list_of h.ports.inboxes c)) [] apart

firsts-same : (m c : ℕ) (l r : List (List (ℕ × Frame))) → ((d : ℕ) → c ≤ d → list_of l d ≡ list_of r d) → firsts m c l ≡ firsts m c r
firsts-same zero c l r same = refl
firsts-same (suc m) c l r same =
    let here = same c (omega arith) in
    let rest = firsts-same m (c + 1) l r (λ d low. same d (omega (arith, low))) in
    λ i. take 4 (here i) ++ rest i

-- once the first four of each of that many clients were handed out
pub hands-firsts : (m c : ℕ) (h : Handing) → 1 ≤ c → c + m ≤ length h.ports.inboxes + 1 → HandsOutFirsts m c h (handed_out m c h)
hands-firsts zero c h low high = record {
  out = hands-none h;
  lose = λ d k l. absurd (omega (arith, k, l));
  stay = λ d k l. refl;
}
hands-firsts (suc m) c h low high =
    let inbox = list_of h.ports.inboxes c in
    let then = handed_all c (take 4 inbox) h in
    let one = hands-all c (take 4 inbox) h in
    let long = one.count in
    let rest = hands-firsts m (c + 1) then (omega arith) (omega (arith, high, long)) in
    let gone = loses c (take 4 inbox) (drop 4 inbox) h low (omega (arith, high)) (sym (take-append-drop 4 inbox)) in
    let other : (d : ℕ) → c + 1 ≤ d → list_of then.ports.inboxes d ≡ list_of h.ports.inboxes d =
    λ d k. stays c d (take 4 inbox) h low (omega (arith, k)) (λ (e : d ≡ c). absurd (omega (arith, e, k))) in
    let same = firsts-same m (c + 1) then.ports.inboxes h.ports.inboxes other in
    record {
      out =
          subst (λ l. HandsOut h (take 4 inbox ++ l) (handed_out m (c + 1) then)) same
          (hands-then h then (handed_out m (c + 1) then) (take 4 inbox) (firsts m (c + 1) then.ports.inboxes) one rest.out);
      lose = λ d k l.
          dite (ℕ_discrete d c)
          (λ e.
          let own = rest.stay c low (omega arith) ∙ gone in
          subst (λ n. list_of (handed_out m (c + 1) then).ports.inboxes n ≡ drop 4 (list_of h.ports.inboxes n)) (sym e) own)
          (λ ne. rest.lose d (omega (arith, k, ne)) (omega (arith, l)) ∙ ap (drop 4) (other d (omega (arith, k, ne))));
      stay = λ d k l.
          rest.stay d k (omega (arith, l))
          ∙ stays c d (take 4 inbox) h low k (λ (e : d ≡ c). absurd (omega (arith, e, l)));
    }
