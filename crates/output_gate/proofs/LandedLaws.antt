-- How many frames land and are dropped of those that came before, how many new ones are dropped, and each client's number after them.
use Rattle.std.proofs.Common.{◌≡◌, ◌≢◌, ℕ, ◌+◌, ◌-◌, ◌<◌, ◌≤◌, Bool, true, false, if◌then◌else◌, List, [], ◌∷◌, ◌++◌, length, refl, sym}
use Rattle.std.proofs.Common.{◌∙◌, ap, subst, arith, All}
use Rattle.std.proofs.{Common.{inl, inr}, lemmas.Bool.{cases_lt, lt-ltb, le-ltb}}
use Rattle.std.proofs.lemmas.List.Elements.{All-head, All-tail}
use Rattle.arrayvec.specs.ArrayVec.{ArrayVec}
use Rattle.frame_ports.specs.Addresses.{addressed, clients_from, paired_with, targets_of}
use Rattle.frame_ports.specs.Lands.{has_room, drop_count}
use Rattle.frame_ports.specs.Numbers.{last_come, is_new, landing, after_landing}
use Rattle.frame_ports.specs.Ports.{PortsState}
use Rattle.frame_ports.specs.declared.landing.Landing.TheVariants.{In, Dropped}
use Rattle.frame_ports.specs.laws.Addresses.{clients_from-range, clients_from-add}
use Rattle.frame_ports.specs.laws.Lands.{drop_count-append}
use Rattle.frame_ports.specs.laws.Numbers.{landing-new, landing-old, new_from, old_from, number_is}
use Rattle.frame_ports.specs.laws.Numbers.{number_other}
use Rattle.output_gate.specs.Landings.{clients_for, landed_for, ports_after, puts, drops, landed_of, dropped_of, landed_count}
use Rattle.output_gate.specs.Landings.{dropped_count, AreBelow, AreOld, AreRising, last_number}
use Rattle.output_gate.specs.laws.Ports.{after_frame, landed_for-append, numbers_count-for, number_at_most-for}
use Rattle.output_gate.specs.laws.Ports.{number_rises-for, number_other-for}
use Rattle.output_gate.specs.laws.Ports.{rest_same-after, risen-after, ports_after-append, landed_count-append, dropped_count-append}
use Rattle.output_gate.specs.laws.Old.{same_after, old_for, ports_after-old, old-risen, old-after}
use Rattle.output_gate.specs.laws.New.{new_here, new_later, rising, new, boxes-frame, count-frame, below-frame, boxes-after}
use Rattle.output_gate.specs.laws.New.{landed_count-new}

-- one frame that came before for each of these clients
module _ (n : ℕ) (f : ArrayVec ℕ) (p : PortsState) where
  landed_of-old : (cs : List ℕ) → All (λ c. n ≤ last_come p c) cs → landed_of p cs n f ≡ 0
  landed_of-old [] old = refl
  landed_of-old (c ∷ cs) old =
      let none : puts (landing p c n) ≡ 0 = ap puts (landing-old p c n f (old_from p c n f (All-head (λ c. n ≤ last_come p c) c cs old))) in
      omega (
        arith,
        none,
        ap (λ (q : PortsState). landed_of q cs n f) (same_after n f p c cs old),
        landed_of-old cs (All-tail (λ c. n ≤ last_come p c) c cs old),
      )

  dropped_of-old : (cs : List ℕ) → All (λ c. n ≤ last_come p c) cs → dropped_of p cs n f ≡ 0
  dropped_of-old [] old = refl
  dropped_of-old (c ∷ cs) old =
      let none : drops (landing p c n) ≡ 0 = ap drops (landing-old p c n f (old_from p c n f (All-head (λ c. n ≤ last_come p c) c cs old))) in
      omega (
        arith,
        none,
        ap (λ (q : PortsState). dropped_of q cs n f) (same_after n f p c cs old),
        dropped_of-old cs (All-tail (λ c. n ≤ last_come p c) c cs old),
      )

pub landed_count-old : (p : PortsState) (first : ℕ) (fs : List (ArrayVec ℕ)) → AreOld p first fs → landed_count p first fs ≡ 0
landed_count-old p first [] old = refl
landed_count-old p first (f ∷ fs) old =
    omega (
      arith,
      landed_of-old first f p (clients_for p f) old.0,
      ap (λ (q : PortsState). landed_count q (first + 1) fs) (old_for first f p (clients_for p f) old.0),
      landed_count-old p (first + 1) fs old.1,
    )

pub dropped_count-old : (p : PortsState) (first : ℕ) (fs : List (ArrayVec ℕ)) → AreOld p first fs → dropped_count p first fs ≡ 0
dropped_count-old p first [] old = refl
dropped_count-old p first (f ∷ fs) old =
    omega (
      arith,
      dropped_of-old first f p (clients_for p f) old.0,
      ap (λ (q : PortsState). dropped_count q (first + 1) fs) (old_for first f p (clients_for p f) old.0),
      dropped_count-old p (first + 1) fs old.1,
    )

-- the others keep their numbers, where a frame comes for one client
pub others_stay : (p : PortsState) (c n : ℕ) (f : ArrayVec ℕ) (d : ℕ) → 1 ≤ c → 1 ≤ d → d ≢ c →
    last_come (after_landing p c n f) d ≡ last_come p d
others_stay p c n f d = number_other p c n f d

-- a later frame is as new as before, once this one has come for these clients
pub same_new : (p : PortsState) (cs : List ℕ) (n : ℕ) (f : ArrayVec ℕ) (d m : ℕ) → n < m → is_new (landed_for p cs n f) d m ≡ is_new p d m
same_new p cs n f d m later =
    let q = landed_for p cs n f in
    elim (cases_lt (last_come p d) m) [
      | inl low ↦
          let below = number_at_most-for n f p cs d (m - 1) (omega (arith, low)) (omega (arith, later)) in
          lt-ltb (last_come q d) m (omega (arith, below, low)) ∙ sym (lt-ltb (last_come p d) m low)
      | inr high ↦
          let above = number_rises-for n f p cs d in
          le-ltb (last_come q d) m (omega (arith, above, high)) ∙ sym (le-ltb (last_come p d) m high)
    ]

-- one frame that is new for each of these clients
module _ (n : ℕ) (f : ArrayVec ℕ) where
  drop_here : (p : PortsState) (c : ℕ) → last_come p c < n → drops (landing p c n) ≡ (if has_room p.boxes c then 0 else 1)
  drop_here p c new = ap drops (landing-new p c n f (new_from p c n f new)) ∙ by_room (has_room p.boxes c)
    where
      by_room : (b : Bool) → drops (if b then In else Dropped) ≡ (if b then 0 else 1)
      by_room true = refl
      by_room false = refl

  dropped_of-new : (p : PortsState) (cs : List ℕ) → AreRising cs → All (λ c. last_come p c < n) cs →
      dropped_of p cs n f ≡ drop_count p.boxes (paired_with cs f)
  dropped_of-new p [] rising new = refl
  dropped_of-new p (c ∷ cs) rising new =
      omega (
        arith,
        drop_here p c (All-head (λ c. last_come p c < n) c cs new),
        dropped_of-new (after_landing p c n f) cs rising.2 (new_later n f p c cs rising new),
        ap (λ (l : List (List (ArrayVec ℕ))). drop_count l (paired_with cs f)) (new_here n f p c cs new),
      )

-- one frame that is new for every client
module _ (p : PortsState) (n : ℕ) (f : ArrayVec ℕ) (below : AreBelow p n) where
  dropped-frame : dropped_of p (clients_for p f) n f ≡ drop_count p.boxes (paired_with (clients_for p f) f)
  dropped-frame = dropped_of-new n f p (clients_for p f) (rising p n f below) (new p n f below)

  -- a client's number after it: the clients below it, itself and those above it
  module _ (numbered : length p.numbers ≡ length p.boxes) (c : ℕ) (low : 1 ≤ c) (high : c ≤ length p.boxes) where
    front : PortsState
    front = landed_for p (clients_from (c - 1) 1 f.items) n f

    own : PortsState
    own = landed_for front (clients_from 1 c f.items) n f

    parts : clients_for p f ≡ clients_from (c - 1) 1 f.items ++ (clients_from 1 c f.items ++ clients_from (length p.boxes - c) (c + 1) f.items)
    parts =
        let all : length p.boxes ≡ (c - 1) + (1 + (length p.boxes - c)) = omega arith in
        let at : 1 + (c - 1) ≡ c = omega arith in
        ap (λ k. clients_from k 1 f.items) all
        ∙ clients_from-add (c - 1) (1 + (length p.boxes - c)) 1 f.items
        ∙ ap (λ k. clients_from (c - 1) 1 f.items ++ clients_from (1 + (length p.boxes - c)) k f.items) at
        ∙ ap (λ (l : List ℕ). clients_from (c - 1) 1 f.items ++ l) (clients_from-add 1 (length p.boxes - c) c f.items)

    in_parts-frame : after_frame p n f ≡ landed_for own (clients_from (length p.boxes - c) (c + 1) f.items) n f
    unfolding own front
    in_parts-frame =
        ap (λ (l : List ℕ). landed_for p l n f) parts
        ∙ landed_for-append n f p (clients_from (c - 1) 1 f.items)
        (clients_from 1 c f.items ++ clients_from (length p.boxes - c) (c + 1) f.items)
        ∙ landed_for-append n f (landed_for p (clients_from (c - 1) 1 f.items) n f) (clients_from 1 c f.items)
        (clients_from (length p.boxes - c) (c + 1) f.items)

    front_same : last_come front c ≡ last_come p c
    unfolding front
    front_same = number_other-for n f p (clients_from (c - 1) 1 f.items) c low (λ k d inside.
        let at = clients_from-range (c - 1) 1 f.items k d inside in (at.0, λ e. absurd (omega (arith, at.1, e))))

    back_same : last_come (landed_for own (clients_from (length p.boxes - c) (c + 1) f.items) n f) c ≡ last_come own c
    back_same = number_other-for n f own (clients_from (length p.boxes - c) (c + 1) f.items) c low (λ k d inside.
        let at = clients_from-range (length p.boxes - c) (c + 1) f.items k d inside in
        (omega (arith, at.0), λ e. absurd (omega (arith, at.0, e))))

    own_is : last_come own c ≡ (if addressed f.items c then n else last_come p c)
    unfolding own front
    own_is = by_test (addressed f.items c)
      where
        by_test : (b : Bool) → last_come (landed_for (landed_for p (clients_from (c - 1) 1 f.items) n f) (if b then c ∷ [] else []) n f) c
            ≡ (if b then n else last_come p c)
        by_test true = number_is (landed_for p (clients_from (c - 1) 1 f.items) n f) c n f
            (omega (arith, numbers_count-for n f p (clients_from (c - 1) 1 f.items), numbered))
            (omega (arith, front_same, below.below c low high))
        by_test false = front_same

    number-frame : last_come (after_frame p n f) c ≡ (if addressed f.items c then n else last_come p c)
    number-frame = ap (λ (q : PortsState). last_come q c) in_parts-frame ∙ back_same ∙ own_is

-- new frames are dropped as if they had no numbers
pub dropped_count-new : (p : PortsState) (first : ℕ) (fs : List (ArrayVec ℕ)) → AreBelow p first →
    dropped_count p first fs ≡ drop_count p.boxes (targets_of (length p.boxes) fs)
dropped_count-new p first [] below = refl
dropped_count-new p first (f ∷ fs) below =
    omega (
      arith,
      dropped-frame p first f below,
      dropped_count-new (after_frame p first f) (first + 1) fs (below-frame p first f below),
      ap (λ k. drop_count (after_frame p first f).boxes (targets_of k fs)) (count-frame p first f below),
      ap (λ (l : List (List (ArrayVec ℕ))). drop_count l (targets_of (length p.boxes) fs)) (boxes-frame p first f below),
      drop_count-append p.boxes (paired_with (clients_for p f) f) (targets_of (length p.boxes) fs),
    )

pub below-after : (p : PortsState) (first : ℕ) (fs : List (ArrayVec ℕ)) → AreBelow p first →
    AreBelow (ports_after p first fs) (first + length fs)
below-after p first [] below = let same : first ≡ first + 0 = omega arith in subst (λ n. AreBelow p n) same below
below-after p first (f ∷ fs) below =
    let same : first + 1 + length fs ≡ first + length (f ∷ fs) = omega arith in
    subst (λ n. AreBelow (ports_after p first (f ∷ fs)) n) same
    (below-after (after_frame p first f) (first + 1) fs (below-frame p first f below))

-- and each client's number is that of the last one for it
pub numbers-after : (p : PortsState) (first : ℕ) (fs : List (ArrayVec ℕ)) (c : ℕ) → AreBelow p first →
    length p.numbers ≡ length p.boxes → 1 ≤ c → c ≤ length p.boxes →
    last_come (ports_after p first fs) c ≡ last_number c first fs (last_come p c)
numbers-after p first [] c below numbered low high = refl
numbers-after p first (f ∷ fs) c below numbered low high =
    let count : length (after_frame p first f).boxes ≡ length p.boxes = count-frame p first f below in
    numbers-after (after_frame p first f) (first + 1) fs c (below-frame p first f below)
    (numbers_count-for first f p (clients_for p f) ∙ numbered ∙ sym count) low (omega (arith, count))
    ∙ ap (λ k. last_number c (first + 1) fs k) (number-frame p first f below numbered c low high)

pub ruleset new_frames = (boxes-after, landed_count-new, dropped_count-new, rest_same-after, numbers-after, below-after)

pub ruleset old_frames = (ports_after-old, landed_count-old, dropped_count-old, old-after, old-risen, risen-after)

pub ruleset in_parts = (ports_after-append, landed_count-append, dropped_count-append)
