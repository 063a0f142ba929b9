use Rattle.std.proofs.Common.{
  ◌≡◌,
  ℕ,
  zero,
  suc,
  ◌+◌,
  ◌-◌,
  ◌<◌,
  ◌≤◌,
  min,
  true,
  false,
  List,
  [],
  ◌∷◌,
  ◌++◌,
  refl,
  sym,
  ap,
  ◌∙◌,
  if◌then◌else◌,
  length,
  take,
  drop,
  get_or,
  arith,
  append_assoc,
  append-nil,
  length-append,
  length-drop,
  IsTrue,
}
use Rattle.std.proofs.Math.Seq.{drop-append-add}
use Rattle.std.proofs.lemmas.List.{drop-append-le, take_all, length-take-le, drop_all, drop_more, take_at}
use Rattle.virtqueue.specs.declared.chains.Descriptor.{Descriptor}
use Rattle.virtqueue.specs.Chains.{buffer_inside, BuffersInside}
use Rattle.virtqueue.specs.Parts.{bytes_of, readable_bytes}
use Rattle.virtqueue.specs.laws.Lengths.{length_bytes_of}

-- ---- lists

-- what is taken from a joined list, where it takes so much of the first part
pub take_across : (z y : List ℕ) (m count : ℕ) → count ≡ min (length z) m → take m (z ++ y) ≡ take count z ++ take (m - count) y
take_across [] y m count e =
    let none : count ≡ 0 = omega arith in
    let same : m - 0 ≡ m = omega arith in
    rw (none, same) refl
take_across (a ∷ z) y zero count e = let none : count ≡ 0 = omega arith in rw none refl
take_across (a ∷ z) y (suc m) zero e = let none : ⊥ = omega arith in absurd none
take_across (a ∷ z) y (suc m) (suc count) e =
    let e' : count ≡ min (length z) m = omega arith in
    let same : suc m - suc count ≡ m - count = omega arith in
    rw same (ap (λ r. a ∷ r) (take_across z y m count e'))

-- what is left of a joined list behind its first part
pub drop_past : (x y : List ℕ) (s r : ℕ) → s ≡ length x + r → drop s (x ++ y) ≡ drop r y
drop_past x y s r e = ap (λ n. drop n (x ++ y)) e ∙ drop-append-add x y r

-- ---- one buffer

pub skip_writable : (bytes : List ℕ) (d : Descriptor) (ds : List Descriptor) → d.writable ≡ true →
    readable_bytes bytes (d ∷ ds) ≡ readable_bytes bytes ds
skip_writable bytes d ds w = ap (λ b. (if b then [] else bytes_of bytes d) ++ readable_bytes bytes ds) w

pub first_readable : (bytes : List ℕ) (d : Descriptor) (ds : List Descriptor) → d.writable ≡ false →
    readable_bytes bytes (d ∷ ds) ≡ bytes_of bytes d ++ readable_bytes bytes ds
first_readable bytes d ds w = ap (λ b. (if b then [] else bytes_of bytes d) ++ readable_bytes bytes ds) w

pub inside_at : (size : ℕ) (ds : List Descriptor) (k : ℕ) (d : Descriptor) → BuffersInside size ds → k < length ds →
    IsTrue (buffer_inside size (get_or ds k d).address (get_or ds k d).len)
inside_at size [] k d h l = let none : ⊥ = omega arith in absurd none
inside_at size (x ∷ ds) zero d h l = h.0
inside_at size (x ∷ ds) (suc k) d h l = inside_at size ds k d h.1 (omega arith)

-- ---- the steps of a walk along the buffers

module _ (bytes : List ℕ) (parts : List Descriptor) (k : ℕ) (d : Descriptor) (within : k < length parts) where
  here : Descriptor
  here = get_or parts k d

  -- a readable buffer that lies wholly before what is wanted
  pub step_before : (skip : ℕ) → (get_or parts k d).writable ≡ false →
      IsTrue (buffer_inside (length bytes) (get_or parts k d).address (get_or parts k d).len) →
      (get_or parts k d).len ≤ skip →
      drop (skip - (get_or parts k d).len) (readable_bytes bytes (drop (k + 1) parts)) ≡ drop skip (readable_bytes bytes (drop k parts))
  step_before skip w h before =
      let p : Descriptor = get_or parts k d in
      let far : skip ≡ length (bytes_of bytes p) + (skip - p.len) = omega (arith, length_bytes_of bytes p h) in
      sym (ap (λ ds. drop skip (readable_bytes bytes ds)) (drop_more parts k d within)
      ∙ (ap (drop skip) (first_readable bytes p (drop (k + 1) parts) w)
      ∙ drop_past (bytes_of bytes p) (readable_bytes bytes (drop (k + 1) parts)) skip (skip - p.len) far))

  -- a readable buffer of which a part is read
  pub step_in : (skip left count : ℕ) → (get_or parts k d).writable ≡ false →
      IsTrue (buffer_inside (length bytes) (get_or parts k d).address (get_or parts k d).len) →
      skip < (get_or parts k d).len → count ≡ min ((get_or parts k d).len - skip) left →
      take count (drop skip (bytes_of bytes (get_or parts k d))) ++ take (left - count) (readable_bytes bytes (drop (k + 1) parts))
      ≡ take left (drop skip (readable_bytes bytes (drop k parts)))
  step_in skip left count w h inside e =
      let p : Descriptor = get_or parts k d in
      let rest : List ℕ = readable_bytes bytes (drop (k + 1) parts) in
      let whole : length (bytes_of bytes p) ≡ p.len = length_bytes_of bytes p h in
      let short : count ≡ min (length (drop skip (bytes_of bytes p))) left = rw (length-drop skip (bytes_of bytes p), whole) e in
      sym (ap (λ ds. take left (drop skip (readable_bytes bytes ds))) (drop_more parts k d within)
      ∙ (ap (λ xs. take left (drop skip xs)) (first_readable bytes p (drop (k + 1) parts) w)
      ∙ (ap (take left) (drop-append-le skip (bytes_of bytes p) rest (omega (arith, whole)))
      ∙ take_across (drop skip (bytes_of bytes p)) rest left count short)))

-- what was read so far, after one more part of it
pub read_more : (into chunk tail whole rest : List ℕ) (done count : ℕ) → length chunk ≡ count → done ≤ length into →
    whole ≡ take done into ++ (chunk ++ tail) →
    take (done + count) whole ++ rest ≡ take done into ++ (chunk ++ rest)
read_more into chunk tail whole rest done count e within is =
    let size : length (take done into ++ chunk) ≡ done + count =
    omega (arith, length-append (take done into) chunk, length-take-le done into within) in
    ap (λ xs. take (done + count) xs ++ rest) (is ∙ sym (append_assoc (take done into) chunk tail))
    ∙ (ap (λ xs. xs ++ rest) (take_at (take done into ++ chunk) tail (done + count) size)
    ∙ append_assoc (take done into) chunk rest)

-- at the end all of it was read
pub read_all : (into wanted : List ℕ) (done skip : ℕ) → done ≤ length into → length wanted ≡ length into →
    take done into ++ take (length into - done) (drop skip []) ≡ wanted → into ≡ wanted
read_all into wanted done skip within size e =
    let none : List ℕ = [] in
    let empty : drop skip none ≡ none = drop_all skip none (omega arith) in
    let nothing : take (length into - done) (drop skip none) ≡ none = ap (take (length into - done)) empty
    ∙ take_all (length into - done) none (omega arith) in
    let front : take done into ≡ wanted = sym (append-nil (take done into)) ∙ (ap (λ r. take done into ++ r) (sym nothing) ∙ e) in
    let full : length into ≤ done = omega (arith, ap length front, length-take-le done into within) in
    sym (take_all done into full) ∙ front
