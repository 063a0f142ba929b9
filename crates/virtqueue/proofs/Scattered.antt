use Rattle.std.proofs.Common.{
  ◌≡◌,
  ℕ,
  zero,
  suc,
  ◌+◌,
  ◌-◌,
  ◌<◌,
  ◌≤◌,
  min,
  Bool,
  true,
  false,
  List,
  [],
  ◌∷◌,
  ◌++◌,
  refl,
  sym,
  ap,
  ◌∙◌,
  if◌then◌else◌,
  ◌||◌,
  ◌&&◌,
  ◌==◌,
  length,
  take,
  drop,
  get_or,
  arith,
  append_assoc,
  append-nil,
  add-zero,
  length-set,
  IsTrue,
  nat_le,
  slice_set,
}
use Rattle.std.specs.List.{range_with_len}
use Rattle.std.proofs.lemmas.List.{take-append-drop, drop-append-le, drop_all, drop_more, drop-set-lt, take_more_set, take_min}
use Rattle.std.proofs.lemmas.List.FromFn.{length-range_with_len}
use borrow.Author.Tests.{leb-true}
use Rattle.virtqueue.specs.declared.chains.Descriptor.{Descriptor}
use Rattle.virtqueue.specs.Limits.{ram_start}
use Rattle.virtqueue.specs.Memory.{place_of, is_inside, written}
use Rattle.virtqueue.specs.Chains.{buffer_inside}
use Rattle.virtqueue.specs.Parts.{writable_places, put_at}
use Rattle.virtqueue.proofs.Gathered.{drop_past}
use Rattle.virtqueue.specs.laws.Parts.{put_none}

-- ---- bytes put one by one

written_none : (bytes : List ℕ) (p : ℕ) → written bytes p [] ≡ bytes
written_none bytes p = ap (λ xs. xs ++ drop (p + 0) bytes) (append-nil (take p bytes))
    ∙ (ap (λ n. take p bytes ++ drop n bytes) (add-zero p) ∙ take-append-drop p bytes)

written_cons : (bytes : List ℕ) (p u : ℕ) (vs : List ℕ) → p < length bytes → written (slice_set bytes p u) (p + 1) vs
    ≡ written bytes p (u ∷ vs)
written_cons bytes p u vs l =
    let after : p < p + 1 + length vs = omega arith in
    let end : p + 1 + length vs ≡ p + length (u ∷ vs) = omega arith in
    ap (λ xs. (xs ++ vs) ++ drop (p + 1 + length vs) (slice_set bytes p u)) (take_more_set bytes p u l)
    ∙ (ap (λ xs. xs ++ drop (p + 1 + length vs) (slice_set bytes p u)) (append_assoc (take p bytes) (u ∷ []) vs)
    ∙ (ap (λ xs. (take p bytes ++ (u ∷ vs)) ++ xs) (drop-set-lt (p + 1 + length vs) bytes p u after)
    ∙ ap (λ n. (take p bytes ++ (u ∷ vs)) ++ drop n bytes) end))

-- values put at places in a row are written there; those that are left go to the places behind
put_range : (m : ℕ) (us : List ℕ) (bytes : List ℕ) (p : ℕ) (qs : List ℕ) → p + m ≤ length bytes →
    put_at bytes (range_with_len p m ++ qs) us ≡ put_at (written bytes p (take m us)) qs (drop m us)
put_range zero us bytes p qs l = ap (λ bs. put_at bs qs us) (sym (written_none bytes p))
put_range (suc m) [] bytes p qs l = sym (put_none (written bytes p []) qs ∙ written_none bytes p)
put_range (suc m) (u ∷ us) bytes p qs l =
    let at : p < length bytes = omega arith in
    let fits : p + 1 + m ≤ length (slice_set bytes p u) = omega (arith, length-set bytes p u) in
    put_range m us (slice_set bytes p u) (p + 1) qs fits ∙ ap (λ bs. put_at bs qs (drop m us)) (written_cons bytes p u (take m us) at)

drop_range : (s n p : ℕ) → s ≤ n → drop s (range_with_len p n) ≡ range_with_len (p + s) (n - s)
drop_range zero n p l = let a : p ≡ p + 0 = omega arith in let b : n ≡ n - 0 = omega arith in ap (λ k. range_with_len k n) a
    ∙ ap (λ k. range_with_len (p + 0) k) b
drop_range (suc s) zero p l = let none : ⊥ = omega arith in absurd none
drop_range (suc s) (suc n) p l =
    let less : s ≤ n = omega arith in
    let a : p + 1 + s ≡ p + suc s = omega arith in
    let b : n - s ≡ suc n - suc s = omega arith in
    drop_range s n (p + 1) less ∙ (ap (λ k. range_with_len k (n - s)) a ∙ ap (λ k. range_with_len (p + suc s) k) b)

pub drop_least : (xs : List ℕ) (n count : ℕ) → count ≡ min n (length xs) → drop n xs ≡ drop count xs
drop_least [] n count e = drop_all n [] (omega arith) ∙ sym (drop_all count [] (omega arith))
drop_least (x ∷ xs) zero count e = let none : 0 ≡ count = omega arith in ap (λ k. drop k (x ∷ xs)) none
drop_least (x ∷ xs) (suc n) zero e = let none : ⊥ = omega arith in absurd none
drop_least (x ∷ xs) (suc n) (suc count) e = drop_least xs n count (omega arith)

-- ---- the steps of a walk along the buffers

place_fits : (size address len : ℕ) → 0 < len → IsTrue (buffer_inside size address len) → place_of address + len ≤ size
place_fits size address len some h =
    let no : (len == 0) ≡ false = grind arith in
    let both = split (nat_le ram_start address) (nat_le (address + len) (ram_start + size))
    (later (len == 0) (is_inside size address len) no h) in
    let from : ram_start ≤ address = leb-true ram_start address both.0 in
    let to : address + len ≤ ram_start + size = leb-true (address + len) (ram_start + size) both.1 in
    omega arith
  where
    later : (a b : Bool) → a ≡ false → IsTrue (a || b) → IsTrue b
    later true b e h = let none : ⊥ = cc in absurd none
    later false b e h = h

    split : (a b : Bool) → IsTrue (a && b) → (a ≡ true) × (b ≡ true)
    split true b h = (refl, h)
    split false b h = let none : ⊥ = cc in absurd none

first_writable : (d : Descriptor) (ds : List Descriptor) → d.writable ≡ true →
    writable_places (d ∷ ds) ≡ range_with_len (place_of d.address) d.len ++ writable_places ds
first_writable d ds w = ap (λ b. (if b then range_with_len (place_of d.address) d.len else []) ++ writable_places ds) w

module _ (parts : List Descriptor) (k : ℕ) (d : Descriptor) (within : k < length parts) where
  -- a writable buffer that lies wholly before what is written
  pub pass_before : (skip : ℕ) → (get_or parts k d).writable ≡ true → (get_or parts k d).len ≤ skip →
      drop (skip - (get_or parts k d).len) (writable_places (drop (k + 1) parts)) ≡ drop skip (writable_places (drop k parts))
  pass_before skip w before =
      let p : Descriptor = get_or parts k d in
      let range : List ℕ = range_with_len (place_of p.address) p.len in
      let far : skip ≡ length range + (skip - p.len) = omega (arith, length-range_with_len (place_of p.address) p.len) in
      sym (ap (λ ds. drop skip (writable_places ds)) (drop_more parts k d within)
      ∙ (ap (drop skip) (first_writable p (drop (k + 1) parts) w)
      ∙ drop_past range (writable_places (drop (k + 1) parts)) skip (skip - p.len) far))

  -- a writable buffer of which a part is written
  pub pass_in : (bytes values : List ℕ) (skip count : ℕ) → (get_or parts k d).writable ≡ true →
      IsTrue (buffer_inside (length bytes) (get_or parts k d).address (get_or parts k d).len) →
      skip < (get_or parts k d).len → count ≡ min ((get_or parts k d).len - skip) (length values) →
      put_at (written bytes (place_of (get_or parts k d).address + skip) (take count values)) (writable_places (drop (k + 1) parts))
      (drop count values)
      ≡ put_at bytes (drop skip (writable_places (drop k parts))) values
  pass_in bytes values skip count w h inside e =
      let p : Descriptor = get_or parts k d in
      let place : ℕ = place_of p.address in
      let rest : List ℕ = writable_places (drop (k + 1) parts) in
      let room : ℕ = p.len - skip in
      let some : 0 < p.len = omega arith in
      let last : place + p.len ≤ length bytes = place_fits (length bytes) p.address p.len some h in
      let fits : place + skip + room ≤ length bytes = omega arith in
      let size : length (range_with_len place p.len) ≡ p.len = length-range_with_len place p.len in
      let split : drop skip (writable_places (drop k parts)) ≡ range_with_len (place + skip) room ++ rest =
      ap (λ ds. drop skip (writable_places ds)) (drop_more parts k d within)
      ∙ (ap (drop skip) (first_writable p (drop (k + 1) parts) w)
      ∙ (drop-append-le skip (range_with_len place p.len) rest (omega (arith, size))
      ∙ ap (λ xs. xs ++ rest) (drop_range skip p.len place (omega arith)))) in
      let taken : take room values ≡ take count values = sym (ap (λ n. take n values) e ∙ take_min room values) in
      let left : drop room values ≡ drop count values = drop_least values room count e in
      sym (ap (λ ps. put_at bytes ps values) split
      ∙ (put_range room values bytes (place + skip) rest fits
      ∙ (ap (λ xs. put_at (written bytes (place + skip) xs) rest (drop room values)) taken
      ∙ ap (λ xs. put_at (written bytes (place + skip) (take count values)) rest xs) left)))
