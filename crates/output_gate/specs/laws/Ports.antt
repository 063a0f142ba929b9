-- What landings under numbers keep, and that they go in two parts.
use Rattle.std.proofs.Common.{
  ◌≡◌,
  ℕ,
  ◌+◌,
  ◌-◌,
  ◌<◌,
  ◌≤◌,
  ◌≢◌,
  List,
  [],
  ◌∷◌,
  ◌++◌,
  length,
  refl,
  sym,
  ◌∙◌,
  ap,
  subst,
  arith,
  All,
}
use Rattle.std.proofs.lemmas.List.Elements.{All-head, All-tail, All-nil, All-cons}
use Rattle.arrayvec.specs.ArrayVec.{ArrayVec}
use Rattle.frame_ports.specs.Addresses.{IsFrame}
use Rattle.std.proofs.Common.{slice_index_or}
use Rattle.frame_ports.specs.Numbers.{last_come, after_landing}
use Rattle.frame_ports.specs.Ports.{PortsState, IsPorts}
use Rattle.frame_ports.specs.laws.Addresses.{clients_from-range}
use Rattle.frame_ports.specs.laws.Numbers.{boxes_count, numbers_count, next_same, inboxes_same, number_reaches, number_other}
use Rattle.frame_ports.specs.laws.Numbers.{number_rises, number_at_most, ports-after_landing}
use Rattle.frame_ports.specs.declared.landing.Landing.{Landing}
use Rattle.output_gate.specs.Landings.{clients_for, landed_for, ports_after, landed_of, dropped_of, landed_count, dropped_count, HaveRisen}
use Rattle.output_gate.specs.Landings.{told_of, told_after}

module _ (n : ℕ) (f : ArrayVec ℕ) where
  -- one list of clients after another
  pub landed_for-append : (p : PortsState) (cs ds : List ℕ) → landed_for p (cs ++ ds) n f ≡ landed_for (landed_for p cs n f) ds n f
  landed_for-append p [] ds = refl
  landed_for-append p (c ∷ cs) ds = landed_for-append (after_landing p c n f) cs ds

  pub landed_of-append : (p : PortsState) (cs ds : List ℕ) →
      landed_of p (cs ++ ds) n f ≡ landed_of p cs n f + landed_of (landed_for p cs n f) ds n f
  landed_of-append p [] ds = omega arith
  landed_of-append p (c ∷ cs) ds = omega (arith, landed_of-append (after_landing p c n f) cs ds)

  pub dropped_of-append : (p : PortsState) (cs ds : List ℕ) →
      dropped_of p (cs ++ ds) n f ≡ dropped_of p cs n f + dropped_of (landed_for p cs n f) ds n f
  dropped_of-append p [] ds = omega arith
  dropped_of-append p (c ∷ cs) ds = omega (arith, dropped_of-append (after_landing p c n f) cs ds)

  -- one frame keeps the counts, the inboxes and the next number
  pub boxes_count-for : (p : PortsState) (cs : List ℕ) → length (landed_for p cs n f).boxes ≡ length p.boxes
  boxes_count-for p [] = refl
  boxes_count-for p (c ∷ cs) = boxes_count-for (after_landing p c n f) cs ∙ boxes_count p c n f

  pub numbers_count-for : (p : PortsState) (cs : List ℕ) → length (landed_for p cs n f).numbers ≡ length p.numbers
  numbers_count-for p [] = refl
  numbers_count-for p (c ∷ cs) = numbers_count-for (after_landing p c n f) cs ∙ numbers_count p c n f

  pub next_same-for : (p : PortsState) (cs : List ℕ) → (landed_for p cs n f).next ≡ p.next
  next_same-for p [] = refl
  next_same-for p (c ∷ cs) = next_same-for (after_landing p c n f) cs ∙ next_same p c n f

  pub inboxes_same-for : (p : PortsState) (cs : List ℕ) → (landed_for p cs n f).inboxes ≡ p.inboxes
  inboxes_same-for p [] = refl
  inboxes_same-for p (c ∷ cs) = inboxes_same-for (after_landing p c n f) cs ∙ inboxes_same p c n f

  -- no number falls, and none rises above that of the frame
  pub number_rises-for : (p : PortsState) (cs : List ℕ) (d : ℕ) → last_come p d ≤ last_come (landed_for p cs n f) d
  number_rises-for p [] d = omega arith
  number_rises-for p (c ∷ cs) d = omega (arith, number_rises p c n f d, number_rises-for (after_landing p c n f) cs d)

  pub number_at_most-for : (p : PortsState) (cs : List ℕ) (d m : ℕ) → last_come p d ≤ m → n ≤ m → last_come (landed_for p cs n f) d ≤ m
  number_at_most-for p [] d m before frame = before
  number_at_most-for p (c ∷ cs) d m before frame =
      number_at_most-for (after_landing p c n f) cs d m (number_at_most p c n f d m before frame) frame

  -- each of the clients gets the number, and the others keep theirs
  pub number_reaches-for : (p : PortsState) (cs : List ℕ) → All (λ c. c - 1 < length p.numbers) cs →
      All (λ c. n ≤ last_come (landed_for p cs n f) c) cs
  number_reaches-for p [] within = All-nil (λ c. n ≤ last_come p c)
  number_reaches-for p (c ∷ cs) within =
      let q = after_landing p c n f in
      let inside : c - 1 < length p.numbers = All-head (λ c. c - 1 < length p.numbers) c cs within in
      let rest : All (λ c. c - 1 < length q.numbers) cs = subst (λ k. All (λ c. c - 1 < k) cs) (sym (numbers_count p c n f))
      (All-tail (λ c. c - 1 < length p.numbers) c cs within) in
      All-cons (λ d. n ≤ last_come (landed_for q cs n f) d) c cs
      (omega (arith, number_reaches p c n f inside, number_rises-for q cs c))
      (number_reaches-for q cs rest)

  pub number_other-for : (p : PortsState) (cs : List ℕ) (d : ℕ) → 1 ≤ d → All (λ c. (1 ≤ c) × (d ≢ c)) cs →
      last_come (landed_for p cs n f) d ≡ last_come p d
  number_other-for p [] d pos others = refl
  number_other-for p (c ∷ cs) d pos others =
      let at : (1 ≤ c) × (d ≢ c) = All-head (λ c. (1 ≤ c) × (d ≢ c)) c cs others in
      number_other-for (after_landing p c n f) cs d pos (All-tail (λ c. (1 ≤ c) × (d ≢ c)) c cs others)
      ∙ number_other p c n f d at.0 pos at.1

  -- ports stay ports
  pub ports-for : IsFrame f → (p : PortsState) (cs : List ℕ) → All (λ c. (1 ≤ c) × (c ≤ length p.boxes)) cs → IsPorts p →
      IsPorts (landed_for p cs n f)
  ports-for frame p [] clients ok = ok
  ports-for frame p (c ∷ cs) clients ok =
      ports-for frame (after_landing p c n f) cs
      (subst (λ k. All (λ c. (1 ≤ c) × (c ≤ k)) cs) (sym (boxes_count p c n f)) (All-tail (λ c. (1 ≤ c) × (c ≤ length p.boxes)) c cs clients))
      (ports-after_landing p c n f frame (All-head (λ c. (1 ≤ c) × (c ≤ length p.boxes)) c cs clients) ok)

-- the clients of a frame are clients of the ports
pub clients_for-range : (p : PortsState) (f : ArrayVec ℕ) → All (λ c. (1 ≤ c) × (c ≤ length p.boxes)) (clients_for p f)
clients_for-range p f = λ k d inside. let at = clients_from-range (length p.boxes) 1 f.items k d inside in (at.0, omega (arith, at.1))

-- the ports after one frame
abbrev pub after_frame : PortsState → ℕ → ArrayVec ℕ → PortsState
after_frame p n f = landed_for p (clients_for p f) n f

-- landings keep the counts, the inboxes and the next number
pub boxes_count-after : (p : PortsState) (first : ℕ) (fs : List (ArrayVec ℕ)) → length (ports_after p first fs).boxes ≡ length p.boxes
boxes_count-after p first [] = refl
boxes_count-after p first (f ∷ fs) = boxes_count-after (after_frame p first f) (first + 1) fs ∙ boxes_count-for first f p (clients_for p f)

pub numbers_count-after : (p : PortsState) (first : ℕ) (fs : List (ArrayVec ℕ)) →
    length (ports_after p first fs).numbers ≡ length p.numbers
numbers_count-after p first [] = refl
numbers_count-after p first (f ∷ fs) = numbers_count-after (after_frame p first f) (first + 1) fs
    ∙ numbers_count-for first f p (clients_for p f)

pub next_same-after : (p : PortsState) (first : ℕ) (fs : List (ArrayVec ℕ)) → (ports_after p first fs).next ≡ p.next
next_same-after p first [] = refl
next_same-after p first (f ∷ fs) = next_same-after (after_frame p first f) (first + 1) fs ∙ next_same-for first f p (clients_for p f)

pub inboxes_same-after : (p : PortsState) (first : ℕ) (fs : List (ArrayVec ℕ)) → (ports_after p first fs).inboxes ≡ p.inboxes
inboxes_same-after p first [] = refl
inboxes_same-after p first (f ∷ fs) = inboxes_same-after (after_frame p first f) (first + 1) fs
    ∙ inboxes_same-for first f p (clients_for p f)

pub rest_same-after : (p : PortsState) (first : ℕ) (fs : List (ArrayVec ℕ)) →
    ((ports_after p first fs).next ≡ p.next) × ((ports_after p first fs).inboxes ≡ p.inboxes)
rest_same-after p first fs = (next_same-after p first fs, inboxes_same-after p first fs)

pub ports-after : (p : PortsState) (first : ℕ) (fs : List (ArrayVec ℕ)) → All IsFrame fs → IsPorts p → IsPorts (ports_after p first fs)
ports-after p first [] frames ok = ok
ports-after p first (f ∷ fs) frames ok =
    ports-after (after_frame p first f) (first + 1) fs (All-tail IsFrame f fs frames)
    (ports-for first f (All-head IsFrame f fs frames) p (clients_for p f) (clients_for-range p f) ok)

-- no number falls
pub number_rises-after : (p : PortsState) (first : ℕ) (fs : List (ArrayVec ℕ)) (d : ℕ) →
    last_come p d ≤ last_come (ports_after p first fs) d
number_rises-after p first [] d = omega arith
number_rises-after p first (f ∷ fs) d =
    omega (arith, number_rises-for first f p (clients_for p f) d, number_rises-after (after_frame p first f) (first + 1) fs d)

pub risen-after : (p : PortsState) (first : ℕ) (fs : List (ArrayVec ℕ)) → HaveRisen p (ports_after p first fs)
risen-after p first fs = record {
  clients = boxes_count-after p first fs;
  numbers = λ c low high. number_rises-after p first fs c;
}

-- numbers that stay have risen
module _ (p q : PortsState) (boxes : length q.boxes ≡ length p.boxes) (numbers : q.numbers ≡ p.numbers) where
  number_same : (c : ℕ) → slice_index_or q.numbers (c - 1) 0 ≡ slice_index_or p.numbers (c - 1) 0
  number_same c = ap (λ (l : List ℕ). slice_index_or l (c - 1) 0) numbers

  pub risen-same : HaveRisen p q
  risen-same = record { clients = boxes; numbers = λ c low high. omega (arith, number_same c) }

-- one list of frames after another
module _ (first : ℕ) where
  none_sent : first ≡ first + 0
  none_sent = omega arith

one_sent : (first : ℕ) (f : ArrayVec ℕ) (fs : List (ArrayVec ℕ)) → first + 1 + length fs ≡ first + length (f ∷ fs)
one_sent first f fs = omega arith

pub ports_after-append : (p : PortsState) (first : ℕ) (fs gs : List (ArrayVec ℕ)) →
    ports_after p first (fs ++ gs) ≡ ports_after (ports_after p first fs) (first + length fs) gs
ports_after-append p first [] gs = ap (λ n. ports_after p n gs) (none_sent first)
ports_after-append p first (f ∷ fs) gs =
    ports_after-append (after_frame p first f) (first + 1) fs gs
    ∙ ap (λ n. ports_after (ports_after (after_frame p first f) (first + 1) fs) n gs) (one_sent first f fs)

pub landed_count-append : (p : PortsState) (first : ℕ) (fs gs : List (ArrayVec ℕ)) →
    landed_count p first (fs ++ gs) ≡ landed_count p first fs + landed_count (ports_after p first fs) (first + length fs) gs
landed_count-append p first [] gs = omega (arith, ap (λ n. landed_count p n gs) (none_sent first))
landed_count-append p first (f ∷ fs) gs =
    omega (
      arith,
      landed_count-append (after_frame p first f) (first + 1) fs gs,
      ap (λ n. landed_count (ports_after (after_frame p first f) (first + 1) fs) n gs) (one_sent first f fs),
    )

pub dropped_count-append : (p : PortsState) (first : ℕ) (fs gs : List (ArrayVec ℕ)) →
    dropped_count p first (fs ++ gs) ≡ dropped_count p first fs + dropped_count (ports_after p first fs) (first + length fs) gs
dropped_count-append p first [] gs = omega (arith, ap (λ n. dropped_count p n gs) (none_sent first))
dropped_count-append p first (f ∷ fs) gs =
    omega (
      arith,
      dropped_count-append (after_frame p first f) (first + 1) fs gs,
      ap (λ n. dropped_count (ports_after (after_frame p first f) (first + 1) fs) n gs) (one_sent first f fs),
    )

pub told_after-append : {X : Type 0} (told : X → ℕ → Landing → X) (x : X) (p : PortsState) (first : ℕ) (fs gs : List (ArrayVec ℕ)) →
    told_after told x p first (fs ++ gs) ≡ told_after told (told_after told x p first fs) (ports_after p first fs) (first + length fs) gs
told_after-append told x p first [] gs = ap (λ n. told_after told x p n gs) (none_sent first)
told_after-append told x p first (f ∷ fs) gs =
    let q = after_frame p first f in
    let y = told_of told x p (clients_for p f) first f in
    told_after-append told y q (first + 1) fs gs
    ∙ ap (λ n. told_after told (told_after told y q (first + 1) fs) (ports_after q (first + 1) fs) n gs) (one_sent first f fs)
