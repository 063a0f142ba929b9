-- Masks: which blocks they name, and how many.
use Rattle.std.proofs.Common.{◌≡◌, ℕ, zero, suc, ◌+◌, ◌*◌, ◌^◌, ◌<◌, ◌==◌, Bool, true, false, cond, List, [], ◌∷◌, length, map, refl, sym}
use Rattle.std.proofs.{Common.{ap, ◌∙◌, arith, subst}, lemmas.Simd.{bit_mask_l, mask_l-lt, ones-mask_l}}
use Rattle.std.proofs.lemmas.List.{FromFn.{get_or-map-range_with_len, length-map-range_with_len}, Sums.length-filter}
use Rattle.std.proofs.lemmas.Nat.Bits.{same_from_bits_below, bit_at-zero}
use Rattle.std.specs.{Prelude.count_ones, List.{range_with_len, filter}, Int.bit_at, Simd.Lanes.mask_l}
use Rattle.epoch_snapshot.{specs.Blocks.{set_blocks, block_differs, changed_mask}, specs.laws.Ranges.filter_agree_in}

one_of : (b : Bool) → (cond b 1 0 == 1) ≡ b
one_of true = refl
one_of false = refl

-- the bits of a number of n flags
flag_bit : (f : ℕ → Bool) (n i : ℕ) → i < n → bit_at (mask_l (map f (range_with_len 0 n))) i ≡ cond (f i) 1 0
flag_bit f n i below =
    let e : 0 + i ≡ i = omega arith in
    bit_mask_l (map f (range_with_len 0 n)) i
    ∙ ap (λ b. cond b 1 0) (get_or-map-range_with_len f 0 n i i false below e)

flag_lt : (f : ℕ → Bool) (n : ℕ) → mask_l (map f (range_with_len 0 n)) < 2 ^ n
flag_lt f n =
    let h : mask_l (map f (range_with_len 0 n)) < 2 ^ length (map f (range_with_len 0 n)) = mask_l-lt (map f (range_with_len 0 n)) in
    let P : ℕ → Type 0 = λ k. mask_l (map f (range_with_len 0 n)) < 2 ^ k in
    subst P (length-map-range_with_len f 0 n) h

-- which of n places a number of n flags names
named : (f : ℕ → Bool) (n : ℕ) → filter (λ i. bit_at (mask_l (map f (range_with_len 0 n))) i == 1) (range_with_len 0 n) ≡
    filter f (range_with_len 0 n)
named f n =
    filter_agree_in (λ i. bit_at (mask_l (map f (range_with_len 0 n))) i == 1) f 0 n
    (λ i low high. ap (λ k. k == 1) (flag_bit f n i (omega arith)) ∙ one_of (f i))

bit_cases : (b : ℕ) → b < 2 → cond (b == 1) 1 0 ≡ b
bit_cases zero h = refl
bit_cases (suc zero) h = refl
bit_cases (suc (suc b)) h = absurd (omega arith)

-- a number of n bits is the number of its flags
flags_of : (n m : ℕ) → m < 2 ^ n → mask_l (map (λ i. bit_at m i == 1) (range_with_len 0 n)) ≡ m
flags_of n m fits =
    same_from_bits_below n (mask_l (map (λ i. bit_at m i == 1) (range_with_len 0 n))) m (flag_lt (λ i. bit_at m i == 1) n) fits
    (λ i below. flag_bit (λ j. bit_at m j == 1) n i below ∙ bit_cases (bit_at m i) (omega arith))

count_of : (n m : ℕ) → m < 2 ^ n → length (filter (λ i. bit_at m i == 1) (range_with_len 0 n)) ≡ count_ones m
count_of n m fits =
    length-filter (λ i. bit_at m i == 1) (range_with_len 0 n)
    ∙ sym (ones-mask_l (λ i. bit_at m i == 1) (range_with_len 0 n))
    ∙ ap count_ones (flags_of n m fits)

-- a mask names as many blocks as it has ones
pub length-set_blocks : (m : ℕ) → m < 2 ^ 64 → length (set_blocks m) ≡ count_ones m
unfolding set_blocks
length-set_blocks m fits = count_of 64 m fits

pub set_blocks-changed : (old new : List ℕ) (page : ℕ) → set_blocks (changed_mask old new page) ≡
    filter (λ i. block_differs old new (64 * page + i)) (range_with_len 0 64)
unfolding set_blocks changed_mask
set_blocks-changed old new page = named (λ i. block_differs old new (64 * page + i)) 64

pub changed_mask-lt : (old new : List ℕ) (page : ℕ) → changed_mask old new page < 2 ^ 64
unfolding changed_mask
changed_mask-lt old new page = flag_lt (λ i. block_differs old new (64 * page + i)) 64

none_named : (n : ℕ) (k : ℕ) → filter (λ i. bit_at 0 i == 1) (range_with_len k n) ≡ []
none_named zero k = refl
none_named (suc n) k =
    ap (λ b. cond (b == 1) (k ∷ filter (λ i. bit_at 0 i == 1) (range_with_len (k + 1) n))
    (filter (λ i. bit_at 0 i == 1) (range_with_len (k + 1) n))) (bit_at-zero k)
    ∙ none_named n (k + 1)

pub set_blocks-zero : set_blocks 0 ≡ []
unfolding set_blocks
set_blocks-zero = none_named 64 0

-- a number of 64 bits with these bits is the mask
pub mask_from_bits : (old new : List ℕ) (page m : ℕ) → m < 2 ^ 64 →
    ((i : ℕ) → i < 64 → bit_at m i ≡ cond (block_differs old new (64 * page + i)) 1 0) → m ≡ changed_mask old new page
unfolding changed_mask
mask_from_bits old new page m fits bits =
    same_from_bits_below 64 m (mask_l (map (λ i. block_differs old new (64 * page + i)) (range_with_len 0 64))) fits
    (flag_lt (λ i. block_differs old new (64 * page + i)) 64)
    (λ i below. bits i below ∙ sym (flag_bit (λ j. block_differs old new (64 * page + j)) 64 i below))
