-- The row of held frames, cut into epochs.
use Rattle.std.proofs.Common.{
  ◌≡◌,
  ℕ,
  zero,
  suc,
  ◌+◌,
  ◌*◌,
  ◌<◌,
  ◌≤◌,
  Bool,
  true,
  false,
  cond,
  if◌then◌else◌,
  nat_le,
  List,
  [],
  ◌∷◌,
  ◌++◌,
  length,
  take,
  drop,
  refl,
  sym,
  ◌∙◌,
  ap,
  arith,
  All,
  length-append,
}
use Rattle.std.proofs.Math.ListN.{length-drop}
use Rattle.std.proofs.Math.Seq.{take-add}
use Rattle.std.proofs.lemmas.Bool.{leb-false}
use Rattle.std.proofs.lemmas.List.{nil_from_length, take_all, take-append-le, drop-append-le}
use Rattle.std.proofs.lemmas.List.{drop-drop, take-append-drop, length_push, append-nil}
use Rattle.std.proofs.lemmas.List.Elements.{All-push, All-drop}
use Rattle.std.proofs.lemmas.List.Quantifiers.{all_pairs_push}
use Rattle.std.proofs.lemmas.List.Sums.{sum_by-cons}
use Rattle.std.specs.List.{AllPairs, prefix_len}
use Rattle.arrayvec.specs.ArrayVec.{ArrayVec}
use Rattle.frame_ports.specs.Limits.{number_limit}
use Rattle.output_gate.specs.Epochs.{Epoch, epoch, frames_of, frames_to, after_number, IsEpoch}
use Rattle.output_gate.specs.Gate.{GateState, IsGate}
use Rattle.output_gate.specs.internal.Fields.{total, epochs_of}
use Rattle.output_gate.specs.declared.marks.Mark.{Mark}
use Rattle.output_gate.specs.Limits.{max_epochs, max_frames}
use Rattle.output_gate.specs.laws.Epochs.{frames_of-append}
use Rattle.output_gate.proofs.EpochLaws.{frames_to-none, after_number-none}

-- of a list by pairs: its first element against the others, its rest, and what is left of it
module _ {X : Type 0} (R : X → X → Type 0) where
  pub first_pairs : (x : X) (xs : List X) → AllPairs R (x ∷ xs) → All (λ y. R x y) xs
  first_pairs x xs h = λ k d inside. h 0 (suc k) d (omega arith) (omega arith)

  pub rest_pairs : (x : X) (xs : List X) → AllPairs R (x ∷ xs) → AllPairs R xs
  rest_pairs x xs h = λ i j d lt inside. h (suc i) (suc j) d (omega arith) (omega arith)

  pub drop_pairs : (n : ℕ) (xs : List X) → AllPairs R xs → AllPairs R (drop n xs)
  drop_pairs zero xs h = h
  drop_pairs (suc n) [] h = h
  drop_pairs (suc n) (x ∷ xs) h = drop_pairs n xs (rest_pairs x xs h)

-- one epoch more, behind the others
pub epochs_of-push : (ms : List Mark) (m : Mark) (fs gs : List (ArrayVec ℕ)) → total ms ≡ length fs → m.count ≡ length gs →
    epochs_of (ms ++ m ∷ []) (fs ++ gs) ≡ epochs_of ms fs ++ epoch m.number gs ∷ []
epochs_of-push [] m fs gs whole count =
    ap (λ (l : List (ArrayVec ℕ)). epoch m.number l ∷ [])
    (ap (λ (l : List (ArrayVec ℕ)). take m.count (l ++ gs)) (nil_from_length fs (sym whole)) ∙ take_all m.count gs (omega arith))
epochs_of-push (x ∷ ms) m fs gs whole count =
    let more : total (x ∷ ms) ≡ x.count + total ms = sum_by-cons (λ (y : Mark). y.count) x ms in
    let within : x.count ≤ length fs = omega arith in
    let rest : total ms ≡ length (drop x.count fs) = omega (arith, length-drop x.count fs) in
    ap (λ (l : List (ArrayVec ℕ)). epoch x.number l ∷ epochs_of (ms ++ m ∷ []) (drop x.count (fs ++ gs)))
    (take-append-le x.count fs gs within)
    ∙ ap (λ (l : List (ArrayVec ℕ)). epoch x.number (take x.count fs) ∷ epochs_of (ms ++ m ∷ []) l) (drop-append-le x.count fs gs within)
    ∙ ap (λ (l : List Epoch). epoch x.number (take x.count fs) ∷ l) (epochs_of-push ms m (drop x.count fs) gs rest count)

-- all frames of the epochs are the row
pub frames_of-epochs : (ms : List Mark) (fs : List (ArrayVec ℕ)) → total ms ≡ length fs → frames_of (epochs_of ms fs) ≡ fs
frames_of-epochs [] fs whole = sym (nil_from_length fs (sym whole))
frames_of-epochs (m ∷ ms) fs whole =
    let more : total (m ∷ ms) ≡ m.count + total ms = sum_by-cons (λ (y : Mark). y.count) m ms in
    let rest : total ms ≡ length (drop m.count fs) = omega (arith, length-drop m.count fs) in
    ap (λ (l : List (ArrayVec ℕ)). take m.count fs ++ l) (frames_of-epochs ms (drop m.count fs) rest) ∙ take-append-drop m.count fs

-- as many epochs as marks
pub length-epochs_of : (ms : List Mark) (fs : List (ArrayVec ℕ)) → length (epochs_of ms fs) ≡ length ms
length-epochs_of [] fs = refl
length-epochs_of (m ∷ ms) fs = ap suc (length-epochs_of ms (drop m.count fs))

-- the first epochs taken away
pub drop-epochs_of : (k : ℕ) (ms : List Mark) (fs : List (ArrayVec ℕ)) →
    drop k (epochs_of ms fs) ≡ epochs_of (drop k ms) (drop (total (take k ms)) fs)
drop-epochs_of zero ms fs = refl
drop-epochs_of (suc k) [] fs = refl
drop-epochs_of (suc k) (m ∷ ms) fs =
    drop-epochs_of k ms (drop m.count fs) ∙ ap (λ (l : List (ArrayVec ℕ)). epochs_of (drop k ms) l)
    (drop-drop (total (take k ms)) m.count fs ∙ ap (λ n. drop n fs) (sym (sum_by-cons (λ (y : Mark). y.count) m (take k ms))))

-- where a number is in the epochs: how many of them are up to it
abbrev pub reach : ℕ → List Mark → ℕ
reach n ms = prefix_len (λ m. nat_le m.number n) ms

-- the epochs up to a number, and those after it
pub frames_to-reach : (n : ℕ) (ms : List Mark) (fs : List (ArrayVec ℕ)) → AllPairs (λ a b. a.number < b.number) (epochs_of ms fs) →
    frames_to n (epochs_of ms fs) ≡ take (total (take (reach n ms) ms)) fs
frames_to-reach n [] fs rising = refl
frames_to-reach n (m ∷ ms) fs rising =
    by_number (nat_le m.number n) refl (frames_to-reach n ms (drop m.count fs)
    (rest_pairs (λ a b. a.number < b.number) (epoch m.number (take m.count fs)) (epochs_of ms (drop m.count fs)) rising))
  where
    es : List Epoch
    es = epochs_of ms (drop m.count fs)

    by_number : (b : Bool) → nat_le m.number n ≡ b → frames_to n es ≡ take (total (take (reach n ms) ms)) (drop m.count fs) →
        (if b then take m.count fs ++ frames_to n es else frames_to n es) ≡ take (total (take (cond b (1 + reach n ms) 0) (m ∷ ms))) fs
    by_number true here rest =
        let one : 1 + reach n ms ≡ suc (reach n ms) = omega arith in
        ap (λ (l : List (ArrayVec ℕ)). take m.count fs ++ l) rest
        ∙ sym (take-add m.count (total (take (reach n ms) ms)) fs)
        ∙ ap (λ k. take k fs) (sym (sum_by-cons (λ (y : Mark). y.count) m (take (reach n ms) ms)))
        ∙ ap (λ k. take (total (take k (m ∷ ms))) fs) (sym one)
    by_number false here rest =
        frames_to-none n es (λ k d inside. let later = first_pairs (λ a b. a.number < b.number) (epoch m.number (take m.count fs)) es rising
        k d inside in let above = leb-false m.number n here in omega arith)

pub after_number-reach : (n : ℕ) (ms : List Mark) (fs : List (ArrayVec ℕ)) → AllPairs (λ a b. a.number < b.number) (epochs_of ms fs) →
    after_number n (epochs_of ms fs) ≡ drop (reach n ms) (epochs_of ms fs)
after_number-reach n [] fs rising = refl
after_number-reach n (m ∷ ms) fs rising =
    by_number (nat_le m.number n) refl (after_number-reach n ms (drop m.count fs)
    (rest_pairs (λ a b. a.number < b.number) (epoch m.number (take m.count fs)) (epochs_of ms (drop m.count fs)) rising))
  where
    es : List Epoch
    es = epochs_of ms (drop m.count fs)

    by_number : (b : Bool) → nat_le m.number n ≡ b → after_number n es ≡ drop (reach n ms) es →
        (if b then after_number n es else epoch m.number (take m.count fs) ∷ after_number n es)
        ≡ drop (cond b (1 + reach n ms) 0) (epoch m.number (take m.count fs) ∷ es)
    by_number true here rest =
        let one : 1 + reach n ms ≡ suc (reach n ms) = omega arith in
        rest ∙ ap (λ k. drop k (epoch m.number (take m.count fs) ∷ es)) (sym one)
    by_number false here rest =
        ap (λ (l : List Epoch). epoch m.number (take m.count fs) ∷ l)
        (after_number-none n es (λ k d inside. let later = first_pairs (λ a b. a.number < b.number) (epoch m.number (take m.count fs)) es
        rising k d inside in let above = leb-false m.number n here in omega arith))

-- a gate after one more epoch, and after the first ones have gone
pub gate-push : (g : GateState) (e : Epoch) → IsGate g → length g.epochs < max_epochs → All (λ d. d.number < e.number) g.epochs →
    IsEpoch e → g.next + length e.frames ≤ number_limit →
    IsGate (record { next = g.next + length e.frames; epochs = g.epochs ++ e ∷ [] })
gate-push g e ok room above new limit = record {
  few = omega (arith, length_push g.epochs e);
  rising = all_pairs_push (λ a b. a.number < b.number) g.epochs e ok.rising above;
  epochs = All-push IsEpoch g.epochs e ok.epochs new;
  numbers = omega (
    arith,
    ap (λ (l : List (ArrayVec ℕ)). length l) (frames_of-append g.epochs (e ∷ [])),
    length-append (frames_of g.epochs) (e.frames ++ []),
    ap (λ (l : List (ArrayVec ℕ)). length l) (append-nil e.frames),
    ok.numbers,
  );
  limit = limit;
}

length-frames_of-drop : (k : ℕ) (es : List Epoch) → length (frames_of (drop k es)) ≤ length (frames_of es)
length-frames_of-drop k es =
    omega (
      arith,
      ap (λ (l : List (ArrayVec ℕ)). length l) (sym (frames_of-append (take k es) (drop k es)) ∙ ap frames_of (take-append-drop k es)),
      length-append (frames_of (take k es)) (frames_of (drop k es)),
    )

pub gate-drop : (k : ℕ) (g : GateState) → IsGate g → IsGate (record g { epochs = drop k g.epochs })
gate-drop k g ok = record {
  few = omega (arith, length-drop k g.epochs, ok.few);
  rising = drop_pairs (λ a b. a.number < b.number) k g.epochs ok.rising;
  epochs = All-drop IsEpoch k g.epochs ok.epochs;
  numbers = omega (arith, length-frames_of-drop k g.epochs, ok.numbers);
  limit = ok.limit;
}

-- the row holds at most 256 frames for each epoch
pub length-frames_of : (es : List Epoch) → All IsEpoch es → length (frames_of es) ≤ length es * max_frames
length-frames_of [] all = omega arith
length-frames_of (e ∷ es) all =
    omega (
      arith,
      length-append e.frames (frames_of es),
      (all 0 e (omega arith)).0,
      length-frames_of es (λ k d inside. all (suc k) d (omega arith)),
    )
