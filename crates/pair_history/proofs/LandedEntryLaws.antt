-- What a journal hears of frames that land is what they add. And what lists of frames have in parts.
use Rattle.std.proofs.Common.{◌≡◌, ℕ, zero, suc, ◌+◌, ◌-◌, ◌<◌, ◌≤◌, List, [], ◌∷◌, ◌++◌, length}
use Rattle.std.proofs.Common.{take, drop, get_or, refl, sym, ap, ◌∙◌, arith, append_assoc}
use Rattle.std.proofs.Math.Seq.{drop-cons}
use Rattle.std.proofs.lemmas.List.{append-nil, length-append, length-map, length-take, length-take-le, get_or-map}
use Rattle.std.specs.Prelude.{map}
use Rattle.frame_ports.specs.Numbers.{landing, after_landing}
use Rattle.frame_ports.specs.Ports.{PortsState}
use Rattle.frame_ports.specs.declared.landing.{Landing.{Landing}, Landing.TheVariants.{In, Dropped, Old}}
use Rattle.output_gate.specs.Landings.{clients_for, landed_for, puts, drops, landed_of, dropped_of, landed_count, dropped_count}
use Rattle.output_gate.specs.Landings.{told_of, told_after}
use Rattle.pair_history.specs.Entries.{Frame}
use Rattle.pair_history.specs.{Journal.{with_history}, LandedEntries.{all_frames, entries_of_landing, entries_for, entries_after, Heard, written}}
use Rattle.frame_list.specs.Listed.{Listed}

-- WHAT A JOURNAL HEARS of them is what they add

module _ (n : ℕ) (f : Frame) where
  one_heard : (c : ℕ) (l : Landing) → length (entries_of_landing c l) ≡ puts l + drops l
  one_heard c In = refl
  one_heard c Dropped = refl
  one_heard c Old = refl

  count_for : (p : PortsState) (cs : List ℕ) → length (entries_for p cs n f) ≡ landed_of p cs n f + dropped_of p cs n f
  count_for p [] = refl
  count_for p (c ∷ cs) =
      let l = landing p c n in
      let q = after_landing p c n f in
      omega (arith, one_heard c l, count_for q cs, length-append (entries_of_landing c l) (entries_for q cs n f))

  heard_for : (h : Heard) (p : PortsState) (cs : List ℕ)
      → told_of written h p cs n f ≡ (with_history h.0 (entries_for p cs n f), h.1)
  heard_for h p [] = ap (λ es. (record h.0 { history = es }, h.1)) (sym (append-nil h.0.history))
  heard_for h p (c ∷ cs) =
      let l = landing p c n in
      let q = after_landing p c n f in
      heard_for (written h c l) q cs
      ∙ ap (λ es. (record h.0 { history = es }, h.1)) (append_assoc h.0.history (entries_of_landing c l) (entries_for q cs n f))

pub entries_count : (p : PortsState) (first : ℕ) (fs : List Frame)
    → length (entries_after p first fs) ≡ landed_count p first fs + dropped_count p first fs
entries_count p first [] = refl
entries_count p first (f ∷ fs) =
    let cs = clients_for p f in
    let q = landed_for p cs first f in
    omega (
      arith,
      count_for first f p cs,
      entries_count q (first + 1) fs,
      length-append (entries_for p cs first f) (entries_after q (first + 1) fs),
    )

pub heard_after : (h : Heard) (p : PortsState) (first : ℕ) (fs : List Frame)
    → told_after written h p first fs ≡ (with_history h.0 (entries_after p first fs), h.1)
heard_after h p first [] = ap (λ es. (record h.0 { history = es }, h.1)) (sym (append-nil h.0.history))
heard_after h p first (f ∷ fs) =
    let es = entries_for p (clients_for p f) first f in
    let q = landed_for p (clients_for p f) first f in
    ap (λ x. told_after written x q (first + 1) fs) (heard_for first f h p (clients_for p f))
    ∙ heard_after (with_history h.0 es, h.1) q (first + 1) fs
    ∙ ap (λ t. (record h.0 { history = t }, h.1)) (append_assoc h.0.history es (entries_after q (first + 1) fs))

-- LISTS, one after another

list_more : (fss : List (List Frame)) (i : ℕ) (fs : List Frame) → i < length fss → fs ≡ get_or fss i fs
    → all_frames (drop i fss) ≡ fs ++ all_frames (drop (i + 1) fss)
list_more fss i fs within is =
    let e : suc i ≡ i + 1 = omega arith in
    ap all_frames (drop-cons fss i fs within ∙ (λ k. sym is k ∷ drop (e k) fss))

-- the frames of a list that have a number below `end`, and then those of others
take-parts : (n : ℕ) (fs gs : List Frame) → take n (fs ++ gs) ≡ take n fs ++ take (n - length fs) gs
take-parts zero [] gs = let same : 0 ≡ 0 - 0 = omega arith in ap (λ m. take m gs) same
take-parts (suc n) [] gs = let same : suc n ≡ suc n - 0 = omega arith in ap (λ m. take m gs) same
take-parts zero (f ∷ fs) gs = let none : 0 ≡ 0 - length (f ∷ fs) = omega arith in ap (λ m. take m gs) none
take-parts (suc n) (f ∷ fs) gs =
    let same : n - length fs ≡ suc n - length (f ∷ fs) = omega arith in
    ap (λ (hs : List Frame). f ∷ hs) (take-parts n fs gs) ∙ ap (λ m. f ∷ (take n fs ++ take m gs)) same

cut-parts : (end number : ℕ) (fs gs : List Frame)
    → take (end - number) (fs ++ gs)
    ≡ take (end - number) fs ++ take (end - (number + length (take (end - number) fs))) gs
cut-parts end number fs gs =
    let long = length-take (end - number) fs in
    let rest : (end - number) - length fs ≡ end - (number + length (take (end - number) fs)) = omega arith in
    take-parts (end - number) fs gs ∙ ap (λ n. take (end - number) fs ++ take n gs) rest

-- from one list on, so many of its frames come first, and then those of the later lists
pub next_list : (end number : ℕ) (vs : List Listed) (i : ℕ) (v : Listed) (k : ℕ) → i < length vs → v ≡ get_or vs i v
    → take k v.items ≡ take (end - number) v.items → k ≤ length v.items
    → take (end - number) (all_frames (drop i (map (λ x. x.items) vs)))
    ≡ take k v.items ++ take (end - (number + k)) (all_frames (drop (i + 1) (map (λ x. x.items) vs)))
next_list end number vs i v k within is known there =
    let fss = map (λ x. x.items) vs in
    let later = all_frames (drop (i + 1) fss) in
    let long = length-take-le k v.items there in
    let all = length-map vs (λ x. x.items) in
    ap (take (end - number))
    (list_more fss i v.items (omega arith) (ap (λ x. x.items) is ∙ sym (get_or-map (λ x. x.items) vs i v v.items within)))
    ∙ cut-parts end number v.items later
    ∙ ap (λ (fs : List Frame). fs ++ take (end - (number + length fs)) later) (sym known)
    ∙ ap (λ m. take k v.items ++ take (end - (number + m)) later) long
