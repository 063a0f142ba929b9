-- The mask of a page, made of one flag for each block.
use Rattle.std.proofs.Common.{
  ◌≡◌,
  ℕ,
  ◌+◌,
  ◌-◌,
  ◌*◌,
  ◌≤◌,
  ◌<◌,
  ◌^◌,
  zero,
  suc,
  Bool,
  true,
  false,
  cond,
  List,
  length,
  get_or,
  refl,
  sym,
  ◌∙◌,
  ap,
  arith,
  map,
}
use Rattle.std.specs.Prelude.{◌↔◌}
use Rattle.std.specs.List.{range_with_len}
use Rattle.std.specs.Int.{bit_at}
use Rattle.std.specs.Simd.Lanes.{mask_l}
use Rattle.std.proofs.lemmas.Simd.{mask_l-mod, bit_mask_l, length-chunk}
use Rattle.page_lanes.proofs.SideBySide.{differ-tells}
use mir.Val.{bool_byte}
use Rattle.page_lanes.specs.Kernels.{differ, block}

-- for each of n blocks from block i on, whether it differs
abbrev pub flags : List ℕ → List ℕ → ℕ → ℕ → List Bool
flags a b i n = map (λ k. differ (block k a) (block k b)) (range_with_len i n)

pub length-flags : (a b : List ℕ) (i n : ℕ) → length (flags a b i n) ≡ n
length-flags a b i zero = refl
length-flags a b i (suc n) = ap suc (length-flags a b (i + 1) n)

pub get_or-flags : (a b : List ℕ) (i n k : ℕ) → k < n → get_or (flags a b i n) k false ≡ differ (block (i + k) a) (block (i + k) b)
get_or-flags a b i zero k lt = absurd (omega (arith, lt))
get_or-flags a b i (suc n) zero lt = ap (λ j. differ (block j a) (block j b)) (let e : i ≡ i + 0 = omega arith in e)
get_or-flags a b i (suc n) (suc k) lt =
    let next : (i + 1) + k ≡ i + suc k = omega arith in
    get_or-flags a b (i + 1) n k (omega (arith, lt)) ∙ ap (λ j. differ (block j a) (block j b)) next

-- bit k of the mask says whether block k differs
pub bit_at-flags : (a b : List ℕ) (k : ℕ) → k < 64 → bit_at (mask_l (flags a b 0 64)) k ≡ cond (differ (block k a) (block k b)) 1 0
bit_at-flags a b k lt =
    let same : 0 + k ≡ k = omega arith in
    bit_mask_l (flags a b 0 64) k
    ∙ ap (λ (d : Bool). cond d 1 0) (get_or-flags a b 0 64 k lt)
    ∙ ap (λ j. cond (differ (block j a) (block j b)) 1 0) same

pub mask_l-fits : (ms : List Bool) → length ms ≤ 64 → mask_l ms < 2 ^ 64
mask_l-fits ms few = omega (arith, mask_l-mod ms 64 few)

-- block j's bit put below those of the blocks after it
pub mask_step : (a b : List ℕ) (i j mask bit : ℕ) (d : Bool) → i ≤ 64 → i ≡ j + 1 → mask ≡ mask_l (flags a b i (64 - i)) →
    d ≡ differ (block j a) (block j b) → bit ≡ cond d 1 0 → 2 * mask + bit ≡ mask_l (flags a b j (64 - j))
mask_step a b i j mask bit d low next mask_is d_is bit_is =
    let n = 64 - i in
    let more : 64 - j ≡ suc n = omega arith in
    let above = ap (λ k. mask_l (flags a b k n)) next in
    let lowest = bit_is ∙ ap (λ (f : Bool). cond f 1 0) d_is in
    omega (arith, mask_is, above, lowest, ap (λ k. mask_l (flags a b j k)) more)

pub mask_step-fits : (a b : List ℕ) (j mask : ℕ) → mask ≡ mask_l (flags a b j (64 - j)) → mask < 2 ^ 64
mask_step-fits a b j mask is = rw is (mask_l-fits (flags a b j (64 - j)) (omega (arith, length-flags a b j (64 - j))))

-- a bit says what its flag does
pub bit-tells : (d : Bool) (n : ℕ) → n ≡ cond d 1 0 → (n ≡ 1) ↔ (d ≡ true)
bit-tells true n is = (λ _. refl, λ _. is)
bit-tells false n is = (λ one. absurd (omega (arith, one, is)), λ no. cc)

-- what the whole mask says of block k
pub mask-tells : (a b : List ℕ) (mask k : ℕ) → mask ≡ mask_l (flags a b 0 64) → k < 64 →
    (bit_at mask k ≡ 1) ↔ (differ (block k a) (block k b) ≡ true)
mask-tells a b mask k is lt = bit-tells (differ (block k a) (block k b)) (bit_at mask k) (ap (λ m. bit_at m k) is ∙ bit_at-flags a b k lt)

length-block : (page : List ℕ) (k : ℕ) → length page ≡ 4096 → k < 64 → length (block k page) ≡ 64
length-block page k len lt = length-chunk (64 * k) 64 page (omega arith)

both : {A B C : Type 0} → A ↔ B → B ↔ C → A ↔ C
both p q = (λ a. q.0 (p.0 a), λ c. p.1 (q.1 c))

pub mask-tells_blocks : (a b : List ℕ) (mask k : ℕ) → length a ≡ 4096 → length b ≡ 4096 → mask ≡ mask_l (flags a b 0 64) → k < 64 →
    (bit_at mask k ≡ 1) ↔ (block k a ≡ block k b → ⊥)
mask-tells_blocks a b mask k a_len b_len is lt =
    both (mask-tells a b mask k is lt) (differ-tells (block k a) (block k b) (differ (block k a) (block k b)) (length-block a k a_len lt
    ∙ sym (length-block b k b_len lt)) refl)

pub bool_byte-is : (d : Bool) → bool_byte d ≡ cond d 1 0
bool_byte-is true = refl
bool_byte-is false = refl
