-- Two lists, or one, taken in parts: what holds of each part, and what holds of the whole.
use Rattle.std.proofs.Common.{
  ◌≡◌,
  ℕ,
  ◌+◌,
  ◌-◌,
  ◌*◌,
  ◌≤◌,
  ◌<◌,
  ◌/◌,
  ◌==◌,
  Bool,
  not,
  cond,
  List,
  [],
  ◌∷◌,
  ◌++◌,
  length,
  take,
  drop,
  get_or,
  set,
  refl,
  sym,
  ◌∙◌,
  ap,
  add-one,
  eq-eqb,
  inl,
  inr,
  arith,
  All,
  append_assoc,
  bit_xor,
  count_by,
}
use Rattle.std.proofs.lemmas.Bool.Decides.{eqb_tells}
use Rattle.std.proofs.lemmas.List.{take-append-drop, take_more, set_at, append-nil, take_all, drop_all, length-drop, length-take-le}
use Rattle.std.proofs.lemmas.List.Elements.{All-append, All-same}
use Rattle.std.proofs.lemmas.List.Sums.{sum_by-append}
use Rattle.std.proofs.lemmas.Simd.{get_or-zip2, length-zip2, length-chunk}
use Rattle.std.proofs.Math.Seq.{drop-cons, drop-drop, take-add, take-append_seam, drop-append_seam, get_or-append_seam}
use borrow.Rule.Slice.PartMut.{put_mid}
use Rattle.page_lanes.specs.Kernels.{differences, differing, xored}
use Rattle.page_lanes.proofs.SideBySide.{zip2-take, zip2-drop, zip2-part}

pub take-part : {A : Type 0} (m n k : ℕ) (s : List A) → k ≡ m + n → take k s ≡ take m s ++ take n (drop m s)
take-part m n k s is = ap (λ j. take j s) is ∙ take-add m n s

-- ---- how many places differ

abbrev unequal : ℕ → ℕ → Bool
unequal x y = not (x == y)

abbrev one_if : Bool → ℕ
one_if d = cond d 1 0

count-part : (m n k : ℕ) (ds : List Bool) → k ≡ m + n → count_by (λ d. d) (take k ds) ≡ count_by (λ d. d) (take m ds) + count_by (λ d. d)
    (take n (drop m ds))
count-part m n k ds is = ap (count_by (λ d. d)) (take-part m n k ds is) ∙ sum_by-append one_if (take m ds) (take n (drop m ds))

pub differing-part : (a b : List ℕ) (m n k : ℕ) → k ≡ m + n → differing (take k a) (take k b) ≡ differing (take m a) (take m b) +
    differing (take n (drop m a)) (take n (drop m b))
differing-part a b m n k is =
    let whole = ap (count_by (λ d. d)) (zip2-take unequal k a b) in
    let first = ap (count_by (λ d. d)) (zip2-take unequal m a b) in
    let next = ap (count_by (λ d. d)) (zip2-part unequal m n a b) in
    omega (arith, whole, first, next, count-part m n k (differences a b) is)

pub differing-rest : (a b : List ℕ) (m : ℕ) → differing a b ≡ differing (take m a) (take m b) + differing (drop m a) (drop m b)
differing-rest a b m =
    let ds = differences a b in
    let first = ap (count_by (λ d. d)) (zip2-take unequal m a b) in
    let next = ap (count_by (λ d. d)) (zip2-drop unequal m a b) in
    omega (arith, ap (count_by (λ d. d)) (take-append-drop m ds), sum_by-append one_if (take m ds) (drop m ds), first, next)

-- ---- a fact of each byte

pub All-part : {A : Type 0} (P : A → Type 0) (m n k : ℕ) (s : List A) → k ≡ m + n → All P (take m s) → All P (take n (drop m s)) →
    All P (take k s)
All-part P m n k s is first next = All-same P _ _ (take-part m n k s is) (All-append P (take m s) (take n (drop m s)) first next)

pub All-rest : {A : Type 0} (P : A → Type 0) (m : ℕ) (s : List A) → All P (take m s) → All P (drop m s) → All P s
All-rest P m s first next = All-same P _ _ (sym (take-append-drop m s)) (All-append P (take m s) (drop m s) first next)

-- ---- equal parts

pub same-part : (a b : List ℕ) (m n k : ℕ) → k ≡ m + n → take m a ≡ take m b → take n (drop m a) ≡ take n (drop m b) → take k a ≡ take k b
same-part a b m n k is first next =
    take-part m n k a is ∙ ap (λ l. l ++ take n (drop m a)) first ∙ ap (λ l. take m b ++ l) next ∙ sym (take-part m n k b is)

pub same-rest : (a b : List ℕ) (m : ℕ) → take m a ≡ take m b → drop m a ≡ drop m b → a ≡ b
same-rest a b m first next =
    sym (take-append-drop m a) ∙ ap (λ l. l ++ drop m a) first ∙ ap (λ l. take m b ++ l) next ∙ take-append-drop m b

-- ---- exclusive or, done as far as m

pub xored_to : ℕ → List ℕ → List ℕ → List ℕ
xored_to m s f = xored (take m s) (take m f) ++ drop m s

module _ (s f : List ℕ) (same : length s ≡ length f) (m : ℕ) (inside : m ≤ length s) where
  length-done : length (xored (take m s) (take m f)) ≡ m
  length-done = length-zip2 bit_xor (take m s) (take m f) (length-take-le m s inside ∙ sym (length-take-le m f (omega arith)))
      ∙ length-take-le m s inside

  pub take-xored_to : take m (xored_to m s f) ≡ xored (take m s) (take m f)
  unfolding xored_to
  take-xored_to = ap (λ k. take k (xored (take m s) (take m f) ++ drop m s)) (sym length-done)
      ∙ take-append_seam (xored (take m s) (take m f)) (drop m s)

  pub drop-xored_to : drop m (xored_to m s f) ≡ drop m s
  unfolding xored_to
  drop-xored_to = ap (λ k. drop k (xored (take m s) (take m f) ++ drop m s)) (sym length-done)
      ∙ drop-append_seam (xored (take m s) (take m f)) (drop m s)

  -- n bytes more, put in their place
  pub xored_to-part : (n k : ℕ) → k ≡ m + n → take m (xored_to m s f) ++ (xored (take n (drop m (xored_to m s f))) (take n (drop m f)) ++
      drop k (xored_to m s f)) ≡ xored_to k s f
  unfolding xored_to
  xored_to-part n k is =
      let done = xored (take m s) (take m f) in
      let part = xored (take n (drop m s)) (take n (drop m f)) in
      let after : drop k (xored_to m s f) ≡ drop k s = ap (λ j. drop j (xored_to m s f)) is ∙ sym (drop-drop n m (xored_to m s f))
      ∙ ap (drop n) drop-xored_to ∙ drop-drop n m s ∙ ap (λ j. drop j s) (sym is) in
      let more : done ++ part ≡ xored (take k s) (take k f) = ap (λ l. l ++ part) (zip2-take bit_xor m s f)
      ∙ ap (λ l. take m (xored s f) ++ l) (zip2-part bit_xor m n s f) ∙ sym (take-part m n k (xored s f) is)
      ∙ sym (zip2-take bit_xor k s f) in
      ap (λ l. l ++ (xored (take n (drop m (xored_to m s f))) (take n (drop m f)) ++ drop k (xored_to m s f))) take-xored_to
      ∙ ap (λ l. done ++ (xored (take n l) (take n (drop m f)) ++ drop k (xored_to m s f))) drop-xored_to
      ∙ ap (λ l. done ++ (part ++ l)) after
      ∙ sym (append_assoc done part (drop k s))
      ∙ ap (λ l. l ++ drop k s) more

  -- the rest, put in its place
  pub xored_to-rest : xored (take m s) (take m f) ++ xored (drop m s) (drop m f) ≡ xored s f
  xored_to-rest = ap (λ l. l ++ xored (drop m s) (drop m f)) (zip2-take bit_xor m s f)
      ∙ ap (λ l. take m (xored s f) ++ l) (zip2-drop bit_xor m s f) ∙ take-append-drop m (xored s f)

-- one byte more
pub xored_to-byte : (s f : List ℕ) (m : ℕ) → length s ≡ length f → m < length s →
    set (xored_to m s f) m (bit_xor (get_or (xored_to m s f) m 0) (get_or f m 0)) ≡ xored_to (m + 1) s f
unfolding xored_to
xored_to-byte s f m same inside =
    let done = xored (take m s) (take m f) in
    let x = get_or s m 0 in
    let y = get_or f m 0 in
    let done_len : length done ≡ m = length-done s f same m (omega arith) in
    let cut : drop m s ≡ x ∷ drop (m + 1) s = drop-cons s m 0 inside ∙ ap (λ j. x ∷ drop j s) (sym (add-one m)) in
    let row : xored_to m s f ≡ done ++ x ∷ drop (m + 1) s = ap (λ l. done ++ l) cut in
    let at_m : get_or (xored_to m s f) m 0 ≡ x = ap (λ l. get_or l m 0) row
    ∙ ap (λ j. get_or (done ++ x ∷ drop (m + 1) s) j 0) (sym done_len) ∙ get_or-append_seam done x (drop (m + 1) s) 0 in
    let all_len : length (xored s f) ≡ length s = length-zip2 bit_xor s f same in
    let byte : get_or (xored s f) m 0 ≡ bit_xor x y = get_or-zip2 bit_xor s f m 0 0 0 inside (omega arith) in
    let grown : xored (take (m + 1) s) (take (m + 1) f) ≡ done ++ bit_xor x y ∷ [] = zip2-take bit_xor (m + 1) s f
    ∙ take_more (xored s f) m 0 (omega arith) ∙ ap (λ b. take m (xored s f) ++ b ∷ []) byte
    ∙ ap (λ l. l ++ bit_xor x y ∷ []) (sym (zip2-take bit_xor m s f)) in
    ap (λ l. set l m (bit_xor (get_or (xored_to m s f) m 0) y)) row
    ∙ set_at done x (drop (m + 1) s) (bit_xor (get_or (xored_to m s f) m 0) y) m done_len
    ∙ ap (λ b. done ++ bit_xor b y ∷ drop (m + 1) s) at_m
    ∙ sym (append_assoc done (bit_xor x y ∷ []) (drop (m + 1) s))
    ∙ ap (λ l. l ++ drop (m + 1) s) (sym grown)

-- none and all of the bytes
pub xored_to-none : (s f : List ℕ) → xored_to 0 s f ≡ s
unfolding xored_to
xored_to-none s f = refl

pub xored_to-all : (s f : List ℕ) (m : ℕ) → length s ≡ length f → length s ≤ m → xored_to m s f ≡ xored s f
unfolding xored_to
xored_to-all s f m same all =
    ap (λ l. xored (take m s) (take m f) ++ l) (drop_all m s all)
    ∙ append-nil (xored (take m s) (take m f))
    ∙ ap (λ l. xored l (take m f)) (take_all m s all)
    ∙ ap (λ l. xored s l) (take_all m f (omega arith))

-- one place more
module _ (a b : List ℕ) (i : ℕ) (same : length a ≡ length b) (inside : i < length a) where
  differing-more : differing (take (i + 1) a) (take (i + 1) b) ≡ differing (take i a) (take i b) + differing (get_or a i 0 ∷ []) (get_or
      b i 0 ∷ [])
  differing-more =
      let part_of : (l : List ℕ) → i < length l → take 1 (drop i l) ≡ get_or l i 0 ∷ [] = λ l in'. ap (take 1) (drop-cons l i 0 in') in
      differing-part a b i 1 (i + 1) refl
      ∙ ap (λ l. differing (take i a) (take i b) + differing l (take 1 (drop i b))) (part_of a inside)
      ∙ ap (λ l. differing (take i a) (take i b) + differing (get_or a i 0 ∷ []) l) (part_of b (omega arith))

  pub differing-more_yes : (get_or a i 0 ≡ get_or b i 0 → ⊥) → differing (take (i + 1) a) (take (i + 1) b) ≡ differing (take i a) (take i
      b) + 1
  differing-more_yes unlike =
      elim (eqb_tells (get_or a i 0) (get_or b i 0)) [
        | inl p ↦ absurd (unlike p.1)
        | inr p ↦ differing-more ∙ ap (λ v. differing (take i a) (take i b) + count_by (λ d. d) (not v ∷ [])) p.0
      ]

  pub differing-more_no : get_or a i 0 ≡ get_or b i 0 → differing (take (i + 1) a) (take (i + 1) b) ≡ differing (take i a) (take i b)
  differing-more_no alike =
      let none : differing (take i a) (take i b) + 0 ≡ differing (take i a) (take i b) = omega arith in
      differing-more ∙ ap (λ v. differing (take i a) (take i b) + count_by (λ d. d) (not v ∷ [])) (eq-eqb (get_or a i 0) (get_or b i 0)
      alike) ∙ none

-- the two blocks at i have one length
pub length-part : (a b : List ℕ) (i : ℕ) → length a ≡ length b → i < length a / 64 →
    length (take 64 (drop (64 * i) a)) ≡ length (take 64 (drop (64 * i) b))
length-part a b i same lt = length-chunk (64 * i) 64 a (omega arith) ∙ sym (length-chunk (64 * i) 64 b (omega arith))

-- the rest of a slice put in its place, as the code writes it
pub xored_to-finish : (s f into ys rest : List ℕ) (m w : ℕ) → length s ≡ length f → m ≤ length s → w ≡ m → into ≡ xored_to m s f →
    rest ≡ drop m f → ys ≡ xored (take (length into - w) (drop w into)) rest → put_mid w (length into - w) into ys ≡ xored s f
xored_to-finish s f into ys rest m w same inside w_is into_is rest_is ys_is =
    let k = length into - w in
    let len : length (drop w into) ≤ k = omega (arith, length-drop w into) in
    let tail : drop w into ≡ drop m s = ap (λ j. drop j into) w_is ∙ ap (drop m) into_is ∙ drop-xored_to s f same m inside in
    let head : take w into ≡ xored (take m s) (take m f) = ap (λ j. take j into) w_is ∙ ap (take m) into_is
    ∙ take-xored_to s f same m inside in
    let part : ys ≡ xored (drop m s) (drop m f) = ys_is ∙ ap (λ l. xored l rest) (take_all k (drop w into) len ∙ tail)
    ∙ ap (xored (drop m s)) rest_is in
    ap (λ l. take w into ++ (ys ++ l)) (drop_all k (drop w into) len)
    ∙ ap (λ l. take w into ++ l) (append-nil ys ∙ part)
    ∙ ap (λ l. l ++ xored (drop m s) (drop m f)) head
    ∙ xored_to-rest s f same m inside
