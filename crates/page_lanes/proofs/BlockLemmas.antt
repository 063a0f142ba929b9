-- The mask of a comparison of two vectors, and the blocks that a slice is cut into.
use Rattle.std.proofs.Common.{
  ◌≡◌,
  ℕ,
  ◌+◌,
  ◌*◌,
  ◌≤◌,
  ◌<◌,
  ◌==◌,
  ◌/◌,
  ◌%◌,
  zero,
  suc,
  Bool,
  true,
  false,
  not,
  cond,
  List,
  [],
  ◌∷◌,
  length,
  take,
  drop,
  get_or,
  refl,
  sym,
  ◌∙◌,
  ap,
  arith,
  count_by,
  map,
  nat_eq,
  count_ones,
}
use Rattle.std.specs.List.{list_any}
use Rattle.std.specs.Simd.{first_chunks}
use Rattle.std.specs.Simd.Lanes.{zip2, mask_l, top}
use Rattle.std.proofs.lemmas.Simd.{tops_compared, mask_l-mod, ones-mask_l, length-zip2}
use Rattle.std.proofs.Math.Seq.{drop-drop}
use Rattle.std.proofs.Math.Nat.{mul-suc}
use mir.Syntax.{w8}
use Rattle.page_lanes.specs.Kernels.{differences, differ, differing}

-- some bit of a mask is set exactly where some flag is
any-mask_l : (ds : List Bool) → not (nat_eq (mask_l ds) 0) ≡ list_any (λ d. d) ds
any-mask_l [] = refl
any-mask_l (false ∷ ds) = ap not (twice (mask_l ds)) ∙ any-mask_l ds
  where
    twice : (n : ℕ) → nat_eq (0 + 2 * n) 0 ≡ nat_eq n 0
    twice zero = refl
    twice (suc n) = grind arith
any-mask_l (true ∷ ds) = grind arith

map-self : (ds : List Bool) → map (λ d. d) ds ≡ ds
map-self [] = refl
map-self (d ∷ ds) = ap (λ l. d ∷ l) (map-self ds)

ones-mask_l_flags : (ds : List Bool) → count_ones (mask_l ds) ≡ count_by (λ d. d) ds
ones-mask_l_flags ds = ap (λ l. count_ones (mask_l l)) (sym (map-self ds)) ∙ ones-mask_l (λ d. d) ds

-- what `simd_ne` and `to_bitmask` make of two vectors
abbrev pub bits_of : List ℕ → List ℕ → ℕ
bits_of xs ys = mask_l (map (top 7) (zip2 (λ a b. cond (not (a == b)) 255 0) xs ys)) % 18446744073709551616

bits_of-mask_l : (xs ys : List ℕ) → length xs ≡ length ys → length xs ≤ 64 → bits_of xs ys ≡ mask_l (differences xs ys)
bits_of-mask_l xs ys e few =
    ap (λ l. mask_l l % 18446744073709551616) (tops_compared w8 (λ x y. not (x == y)) xs ys)
    ∙ mask_l-mod (differences xs ys) 64 (omega (arith, length-zip2 (λ x y. not (x == y)) xs ys e))

pub bits_of-any : (xs ys : List ℕ) → length xs ≡ length ys → length xs ≤ 64 → not (nat_eq (bits_of xs ys) 0) ≡ differ xs ys
bits_of-any xs ys e few = ap (λ n. not (nat_eq n 0)) (bits_of-mask_l xs ys e few) ∙ any-mask_l (differences xs ys)

pub bits_of-ones : (xs ys : List ℕ) → length xs ≡ length ys → length xs ≤ 64 → count_ones (bits_of xs ys) ≡ differing xs ys
bits_of-ones xs ys e few = ap count_ones (bits_of-mask_l xs ys e few) ∙ ones-mask_l_flags (differences xs ys)

-- the block at i of those that a slice is cut into
pub get_or-first_chunks : {A : Type 0} (n k i : ℕ) (xs : List A) (d : List A) → i < k →
    get_or (first_chunks n k xs) i d ≡ take n (drop (n * i) xs)
get_or-first_chunks n zero i xs d lt = absurd (omega (arith, lt))
get_or-first_chunks n (suc k) zero xs d lt = let none : 0 ≡ n * 0 = omega arith in ap (λ j. take n (drop j xs)) none
get_or-first_chunks n (suc k) (suc i) xs d lt =
    let next : n + n * i ≡ n * suc i = omega (arith, mul-suc n i) in
    get_or-first_chunks n k i (drop n xs) d (omega (arith, lt))
    ∙ ap (take n) (drop-drop (n * i) n xs)
    ∙ ap (λ j. take n (drop j xs)) next

-- a block of a slice, as the code reads it
pub block_read : (s : List ℕ) (blocks : List (List ℕ)) (i : ℕ) → blocks ≡ first_chunks 64 (length s / 64) s → i < length s / 64 →
    get_or blocks i [] ≡ take 64 (drop (64 * i) s)
block_read s blocks i are lt = ap (λ (l : List (List ℕ)). get_or l i []) are ∙ get_or-first_chunks 64 (length s / 64) i s [] lt

-- the bytes after the last whole block, where i is the number of blocks
pub rest_is : (s rest : List ℕ) (i : ℕ) → rest ≡ drop (length s / 64 * 64) s → i ≡ length s / 64 → rest ≡ drop (64 * i) s
rest_is s rest i is count = is ∙ ap (λ j. drop j s) (let e : length s / 64 * 64 ≡ 64 * i = omega (arith, count) in e)
