-- A frame is new for a client at the ports before others land just where it is new when its turn comes.
use Rattle.std.proofs.Common.{◌≡◌, ◌≢◌, ℕ, suc, ◌+◌, ◌<◌, ◌≤◌, List, [], ◌∷◌, ◌++◌, length, drop, get_or, refl, sym, ap, ◌∙◌}
use Rattle.std.proofs.{Common.{arith, Bool, true, false, cond}, lemmas.List.length-append, Math.Seq.drop-cons}
use Rattle.std.proofs.lemmas.List.Elements.{All-head, All-tail}
use Rattle.std.specs.Prelude.{All, nat_lt}
use Rattle.frame_ports.specs.{Addresses.clients_of, Numbers.{last_come, is_new, landing, after_landing}, Ports.PortsState}
use Rattle.frame_ports.specs.Lands.{has_room}
use Rattle.frame_ports.specs.declared.landing.Landing.TheVariants.{In, Dropped, Old}
use Rattle.output_gate.specs.Landings.{clients_for, landed_for, AreRising}
use Rattle.pair_history.specs.Entries.{Frame}
use Rattle.pair_history.specs.LandedEntries.{entries_of_landing, entries_for, entries_after}
use Rattle.pair_history.specs.internal.NewFrames.{new_one, new_for, new_after}

-- what the law `one_frame_lands` says
pub record FrameLands : Type 0 where
  pub rise : (p : PortsState) (f : Frame) → AreRising (clients_for p f)
  pub others : (p : PortsState) (c n : ℕ) (f : Frame) (d : ℕ) → 1 ≤ c → 1 ≤ d → d ≢ c → last_come (after_landing p c n f) d ≡ last_come p d
  pub clients : (p : PortsState) (cs : List ℕ) (n : ℕ) (f : Frame) → length (landed_for p cs n f).boxes ≡ length p.boxes
  pub later : (p : PortsState) (cs : List ℕ) (n : ℕ) (f : Frame) (d m : ℕ) → n < m → is_new (landed_for p cs n f) d m ≡ is_new p d m

-- ONE FRAME

one_count : (p : PortsState) (c n : ℕ) → length (entries_of_landing c (landing p c n)) ≡ new_one p c n
one_count p c n = by_tests (is_new p c n) (has_room p.boxes c)
  where
    by_tests : (new room : Bool) → length (entries_of_landing c (cond new (cond room In Dropped) Old)) ≡ cond new 1 0
    by_tests true true = refl
    by_tests true false = refl
    by_tests false room = refl

-- clients for whom it is as new at other ports
alike_for : (p q : PortsState) (n : ℕ) (cs : List ℕ) → All (λ d. is_new q d n ≡ is_new p d n) cs → new_for q cs n ≡ new_for p cs n
alike_for p q n [] same = refl
alike_for p q n (c ∷ cs) same =
    let one = ap (λ (t : Bool). cond t 1 0) (All-head (λ d. is_new q d n ≡ is_new p d n) c cs same) in
    let others = alike_for p q n cs (All-tail (λ d. is_new q d n ≡ is_new p d n) c cs same) in
    λ i. one i + others i

module _ (law : FrameLands) (n : ℕ) (f : Frame) where
  for_count : (p : PortsState) (cs : List ℕ) → AreRising cs → length (entries_for p cs n f) ≡ new_for p cs n
  for_count p [] rise = refl
  for_count p (c ∷ cs) rise =
      let q = after_landing p c n f in
      let others : All (λ d. is_new q d n ≡ is_new p d n) cs = λ k d inside.
      let e : ℕ = get_or cs k d in
      let later : c < e = rise.1 k d inside in
      let low = rise.0 in
      ap (λ m. nat_lt m n) (law.others p c n f e low (omega arith) (λ (same : e ≡ c). absurd (omega arith))) in
      let one = one_count p c n in
      let rest = for_count q cs rise.2 ∙ alike_for p q n cs others in
      length-append (entries_of_landing c (landing p c n)) (entries_for q cs n f) ∙ (λ i. one i + rest i)

-- MORE FRAMES

-- ports with as many clients, for whom the frames from that number on are as new
record Alike (p q : PortsState) (m : ℕ) : Type 0 where
  pub clients : length q.boxes ≡ length p.boxes
  pub new : (d n : ℕ) → m ≤ n → is_new q d n ≡ is_new p d n

after_count : FrameLands → (p q : PortsState) (first : ℕ) (fs : List Frame) → Alike p q first → length (entries_after q first fs) ≡ new_after p first fs
after_count law p q first [] a = refl
after_count law p q first (f ∷ fs) a =
    let cs = clients_for q f in
    let next = landed_for q cs first f in
    let here : length (entries_for q cs first f) ≡ new_for p (clients_for p f) first =
    for_count law first f q cs (law.rise q f)
    ∙ alike_for p q first cs (λ k d inside. a.new (get_or cs k d) first (omega arith))
    ∙ ap (λ k. new_for p (clients_of k f.items) first) a.clients in
    let later : Alike p next (first + 1) = record {
      clients = law.clients q cs first f ∙ a.clients;
      new = λ d n l. law.later q cs first f d n (omega arith) ∙ a.new d n (omega arith);
    } in
    let rest = after_count law p next (first + 1) fs later in
    length-append (entries_for q cs first f) (entries_after next (first + 1) fs) ∙ (λ i. here i + rest i)

pub new_is : FrameLands → (p : PortsState) (first : ℕ) (fs : List Frame) → length (entries_after p first fs) ≡ new_after p first fs
new_is law p first fs = after_count law p p first fs (record { clients = refl; new = λ d n l. refl })

-- IN PARTS

pub new-append : (p : PortsState) (first next : ℕ) (fs gs : List Frame) → next ≡ first + length fs
    → new_after p first (fs ++ gs) ≡ new_after p first fs + new_after p next gs
new-append p first next [] gs e =
    let same : first ≡ next = omega arith in
    let rest = ap (λ n. new_after p n gs) same in
    omega arith
new-append p first next (f ∷ fs) gs e =
    let rest = new-append p (first + 1) next fs gs (omega arith) in
    omega arith

-- one frame more
pub new_next : (p : PortsState) (n : ℕ) (fs : List Frame) (i : ℕ) (f : Frame) → i < length fs → f ≡ get_or fs i f
    → new_after p n (drop i fs) ≡ new_for p (clients_for p f) n + new_after p (n + 1) (drop (i + 1) fs)
new_next p n fs i f within is =
    let e : suc i ≡ i + 1 = omega arith in
    ap (new_after p n) (drop-cons fs i f within ∙ (λ k. sym is k ∷ drop (e k) fs))
