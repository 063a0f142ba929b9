-- Frames that are new for every client land as if they had no numbers: each in the boxes of its clients, in order.
use Rattle.std.proofs.Common.{◌≡◌, ℕ, zero, suc, ◌+◌, ◌-◌, ◌<◌, ◌≤◌, Bool, true, false, if◌then◌else◌, List, [], ◌∷◌, length}
use Rattle.std.proofs.Common.{slice_index_or}
use Rattle.std.proofs.Common.{refl, sym, ◌∙◌, ap, arith, All}
use Rattle.std.proofs.lemmas.List.Elements.{All-head, All-tail}
use Rattle.arrayvec.specs.ArrayVec.{ArrayVec}
use Rattle.frame_ports.specs.Addresses.{addressed, clients_from, paired_with, targets_of}
use Rattle.frame_ports.specs.Lands.{has_room, landed_at, lands, put_count}
use Rattle.frame_ports.specs.Numbers.{last_come, landing, after_landing}
use Rattle.frame_ports.specs.Ports.{PortsState}
use Rattle.frame_ports.specs.declared.landing.Landing.TheVariants.{In, Dropped}
use Rattle.frame_ports.specs.laws.{Addresses.clients_from-range, Lands.{lands-append, put_count-append}}
use Rattle.frame_ports.specs.laws.Numbers.{after_landing-new, landing-new, new_from, number_other}
use Rattle.output_gate.specs.Landings.{clients_for, landed_for, ports_after, puts, landed_of, landed_count, AreBelow, AreRising}
use Rattle.output_gate.specs.laws.Ports.{after_frame, boxes_count-for, number_at_most-for, clients_for-range}

-- the clients of a frame are rising
rising-from : (k first : ℕ) (bytes : List ℕ) → 1 ≤ first → AreRising (clients_from k first bytes)
rising-from zero first bytes pos = tt
rising-from (suc k) first bytes pos = by_test (addressed bytes first) (rising-from k (first + 1) bytes (omega arith))
  where
    later : All (λ d. first < d) (clients_from k (first + 1) bytes)
    later = λ i d inside. let at = clients_from-range k (first + 1) bytes i d inside in omega (arith, at.0)

    by_test : (b : Bool) → AreRising (clients_from k (first + 1) bytes) →
        AreRising (if b then first ∷ clients_from k (first + 1) bytes else clients_from k (first + 1) bytes)
    by_test true rest = (pos, later, rest)
    by_test false rest = rest

pub clients_rise : (p : PortsState) (f : ArrayVec ℕ) → AreRising (clients_for p f)
clients_rise p f = rising-from (length p.boxes) 1 f.items (omega arith)

-- one frame that is new for each of these clients
module _ (n : ℕ) (f : ArrayVec ℕ) where
  pub new_here : (p : PortsState) (c : ℕ) (cs : List ℕ) → All (λ c. last_come p c < n) (c ∷ cs) →
      (after_landing p c n f).boxes ≡ landed_at p.boxes c f
  new_here p c cs new = ap (λ (q : PortsState). q.boxes)
      (after_landing-new p c n f (new_from p c n f (All-head (λ c. last_come p c < n) c cs new)))

  pub new_later : (p : PortsState) (c : ℕ) (cs : List ℕ) → AreRising (c ∷ cs) → All (λ c. last_come p c < n) (c ∷ cs) →
      All (λ d. last_come (after_landing p c n f) d < n) cs
  new_later p c cs rising new = λ k d inside.
      let e : ℕ = slice_index_or cs k d in
      let later : c < e = rising.1 k d inside in
      let before : last_come p e < n = All-tail (λ c. last_come p c < n) c cs new k d inside in
      let other : last_come (after_landing p c n f) e ≡ last_come p e =
      number_other p c n f e rising.0 (omega (arith, later, rising.0)) (λ (same : e ≡ c). absurd (omega (arith, later, same))) in
      omega (arith, before, other)

  boxes-for : (p : PortsState) (cs : List ℕ) → AreRising cs → All (λ c. last_come p c < n) cs →
      (landed_for p cs n f).boxes ≡ lands p.boxes (paired_with cs f)
  boxes-for p [] rising new = refl
  boxes-for p (c ∷ cs) rising new =
      boxes-for (after_landing p c n f) cs rising.2 (new_later p c cs rising new)
      ∙ ap (λ (l : List (List (ArrayVec ℕ))). lands l (paired_with cs f)) (new_here p c cs new)

  put_here : (p : PortsState) (c : ℕ) → last_come p c < n → puts (landing p c n) ≡ (if has_room p.boxes c then 1 else 0)
  put_here p c new = ap puts (landing-new p c n f (new_from p c n f new)) ∙ by_room (has_room p.boxes c)
    where
      by_room : (b : Bool) → puts (if b then In else Dropped) ≡ (if b then 1 else 0)
      by_room true = refl
      by_room false = refl

  landed_of-new : (p : PortsState) (cs : List ℕ) → AreRising cs → All (λ c. last_come p c < n) cs →
      landed_of p cs n f ≡ put_count p.boxes (paired_with cs f)
  landed_of-new p [] rising new = refl
  landed_of-new p (c ∷ cs) rising new =
      omega (
        arith,
        put_here p c (All-head (λ c. last_come p c < n) c cs new),
        landed_of-new (after_landing p c n f) cs rising.2 (new_later p c cs rising new),
        ap (λ (l : List (List (ArrayVec ℕ))). put_count l (paired_with cs f)) (new_here p c cs new),
      )

-- one frame that is new for every client
module _ (p : PortsState) (n : ℕ) (f : ArrayVec ℕ) (below : AreBelow p n) where
  pub rising : AreRising (clients_for p f)
  rising = clients_rise p f

  pub new : All (λ c. last_come p c < n) (clients_for p f)
  new = λ k d inside. let at = clients_for-range p f k d inside in below.below (slice_index_or (clients_for p f) k d) at.0 at.1

  pub boxes-frame : (after_frame p n f).boxes ≡ lands p.boxes (paired_with (clients_for p f) f)
  boxes-frame = boxes-for n f p (clients_for p f) rising new

  pub count-frame : length (after_frame p n f).boxes ≡ length p.boxes
  count-frame = boxes_count-for n f p (clients_for p f)

  pub below-frame : AreBelow (after_frame p n f) (n + 1)
  below-frame = record {
    below = λ c low high.
        let before = below.below c low (omega (arith, count-frame)) in
        let most = number_at_most-for n f p (clients_for p f) c n (omega (arith, before)) (omega arith) in
        omega (arith, most);
  }

  landed-frame : landed_of p (clients_for p f) n f ≡ put_count p.boxes (paired_with (clients_for p f) f)
  landed-frame = landed_of-new n f p (clients_for p f) rising new

-- new frames land as if they had no numbers
pub boxes-after : (p : PortsState) (first : ℕ) (fs : List (ArrayVec ℕ)) → AreBelow p first →
    (ports_after p first fs).boxes ≡ lands p.boxes (targets_of (length p.boxes) fs)
boxes-after p first [] below = refl
boxes-after p first (f ∷ fs) below =
    boxes-after (after_frame p first f) (first + 1) fs (below-frame p first f below)
    ∙ ap (λ k. lands (after_frame p first f).boxes (targets_of k fs)) (count-frame p first f below)
    ∙ ap (λ (l : List (List (ArrayVec ℕ))). lands l (targets_of (length p.boxes) fs)) (boxes-frame p first f below)
    ∙ sym (lands-append p.boxes (paired_with (clients_for p f) f) (targets_of (length p.boxes) fs))

pub landed_count-new : (p : PortsState) (first : ℕ) (fs : List (ArrayVec ℕ)) → AreBelow p first →
    landed_count p first fs ≡ put_count p.boxes (targets_of (length p.boxes) fs)
landed_count-new p first [] below = refl
landed_count-new p first (f ∷ fs) below =
    omega (
      arith,
      landed-frame p first f below,
      landed_count-new (after_frame p first f) (first + 1) fs (below-frame p first f below),
      ap (λ k. put_count (after_frame p first f).boxes (targets_of k fs)) (count-frame p first f below),
      ap (λ (l : List (List (ArrayVec ℕ))). put_count l (targets_of (length p.boxes) fs)) (boxes-frame p first f below),
      put_count-append p.boxes (paired_with (clients_for p f) f) (targets_of (length p.boxes) fs),
    )
