-- Frames that came before for each of their clients change nothing; they are such once they have landed, and stay so.
use Rattle.std.proofs.Common.{◌≡◌, ℕ, ◌+◌, ◌-◌, ◌<◌, ◌≤◌, List, [], ◌∷◌, ◌++◌, length, slice_index_or, refl, sym, ◌∙◌, ap, subst, arith}
use Rattle.std.proofs.Common.{All}
use Rattle.std.proofs.lemmas.List.Elements.{All-head, All-tail}
use Rattle.arrayvec.specs.ArrayVec.{ArrayVec}
use Rattle.frame_ports.specs.Addresses.{clients_of}
use Rattle.frame_ports.specs.Numbers.{last_come, after_landing}
use Rattle.frame_ports.specs.Ports.{PortsState}
use Rattle.frame_ports.specs.laws.Numbers.{after_landing-old, old_from}
use Rattle.output_gate.specs.Landings.{clients_for, landed_for, ports_after, AreOld, HaveRisen}
use Rattle.output_gate.specs.laws.Ports.{after_frame, boxes_count-for, numbers_count-for, number_reaches-for, boxes_count-after}
use Rattle.output_gate.specs.laws.Ports.{number_rises-after, clients_for-range}

-- one frame that came before for each of these clients
module _ (n : ℕ) (f : ArrayVec ℕ) (p : PortsState) where
  pub same_after : (c : ℕ) (cs : List ℕ) → All (λ c. n ≤ last_come p c) (c ∷ cs) → after_landing p c n f ≡ p
  same_after c cs old = after_landing-old p c n f (old_from p c n f (All-head (λ c. n ≤ last_come p c) c cs old))

  pub old_for : (cs : List ℕ) → All (λ c. n ≤ last_come p c) cs → landed_for p cs n f ≡ p
  old_for [] old = refl
  old_for (c ∷ cs) old = ap (λ (q : PortsState). landed_for q cs n f) (same_after c cs old)
      ∙ old_for cs (All-tail (λ c. n ≤ last_come p c) c cs old)

-- frames that came before change nothing
pub ports_after-old : (p : PortsState) (first : ℕ) (fs : List (ArrayVec ℕ)) → AreOld p first fs → ports_after p first fs ≡ p
ports_after-old p first [] old = refl
ports_after-old p first (f ∷ fs) old =
    ap (λ (q : PortsState). ports_after q (first + 1) fs) (old_for first f p (clients_for p f) old.0)
    ∙ ports_after-old p (first + 1) fs old.1

-- they stay so while numbers rise
pub old-risen : (p q : PortsState) (first : ℕ) (fs : List (ArrayVec ℕ)) → HaveRisen p q → AreOld p first fs → AreOld q first fs
old-risen p q first [] risen old = tt
old-risen p q first (f ∷ fs) risen old = (
  subst (λ k. All (λ c. first ≤ last_come q c) (clients_of k f.items)) (sym risen.clients) (λ k d inside.
      let at = clients_for-range p f k d inside in omega (arith, old.0 k d inside, risen.numbers (slice_index_or (clients_for p f) k d) at.0 at.1)),
  old-risen p q (first + 1) fs risen old.1,
)

-- frames are such once they have landed
pub old-after : (p : PortsState) (first : ℕ) (fs : List (ArrayVec ℕ)) → length p.numbers ≡ length p.boxes →
    AreOld (ports_after p first fs) first fs
old-after p first [] numbered = tt
old-after p first (f ∷ fs) numbered =
    let cs = clients_for p f in
    let q = after_frame p first f in
    let boxes : length q.boxes ≡ length p.boxes = boxes_count-for first f p cs in
    let numbers : length q.numbers ≡ length q.boxes = numbers_count-for first f p cs ∙ numbered ∙ sym boxes in
    let within : All (λ c. c - 1 < length p.numbers) cs = λ k d inside. let at = clients_for-range p f k d inside in omega (arith, numbered) in
    let reached : All (λ c. first ≤ last_come q c) cs = number_reaches-for first f p cs within in (
      subst (λ k. All (λ c. first ≤ last_come (ports_after q (first + 1) fs) c) (clients_of k f.items))
          (sym (boxes_count-after q (first + 1) fs ∙ boxes))
          (λ k d inside. omega (arith, reached k d inside, number_rises-after q (first + 1) fs (slice_index_or cs k d))),
      old-after q (first + 1) fs numbers,
    )

-- in parts
pub old-append : (p : PortsState) (first : ℕ) (fs gs : List (ArrayVec ℕ)) → AreOld p first fs → AreOld p (first + length fs) gs →
    AreOld p first (fs ++ gs)
old-append p first [] gs one two = let same : first + 0 ≡ first = omega arith in subst (λ n. AreOld p n gs) same two
old-append p first (f ∷ fs) gs one two =
    let same : first + length (f ∷ fs) ≡ first + 1 + length fs = omega arith in
    (one.0, old-append p (first + 1) fs gs one.1 (subst (λ n. AreOld p n gs) same two))

pub old-back : (p : PortsState) (first : ℕ) (fs gs : List (ArrayVec ℕ)) → AreOld p first (fs ++ gs) → AreOld p (first + length fs) gs
old-back p first [] gs old = let same : first ≡ first + 0 = omega arith in subst (λ n. AreOld p n gs) same old
old-back p first (f ∷ fs) gs old =
    let same : first + 1 + length fs ≡ first + length (f ∷ fs) = omega arith in
    subst (λ n. AreOld p n gs) same (old-back p (first + 1) fs gs old.1)
