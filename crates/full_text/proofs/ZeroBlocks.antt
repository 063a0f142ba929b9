-- A block of memory differs from zeros exactly where it isn't all zero, and a mask takes the flag of one more block above those that it has.
use Rattle.std.proofs.Common.{◌≡◌, ℕ, zero, suc, ◌+◌, ◌-◌, ◌*◌, ◌%◌, ◌^◌, ◌<◌, ◌≤◌, ◌==◌, ◌||◌, not, Bool, true, false, cond, List, [], ◌∷◌, ◌++◌, length, map}
use Rattle.std.proofs.Common.{replicate, take, drop, refl, sym, ap, ◌∙◌, arith, subst, All}
use Rattle.std.proofs.Math.Nat.{two-pow-succ}
use Rattle.std.proofs.lemmas.Bool.{ne_eqb, true≢false}
use Rattle.std.proofs.lemmas.List.FromFn.{map-range_with_len_more, length-map-range_with_len, get_or-map-range_with_len, fill_by_all}
use Rattle.std.proofs.lemmas.List.Elements.{All-nil, All-cons, All-head, All-tail, All-take, All-drop}
use Rattle.std.proofs.lemmas.List.{take-replicate, drop-replicate}
use Rattle.std.proofs.lemmas.Simd.{mask_l-mod}
use mir.Val.{bool_byte}
use Rattle.std.specs.{Prelude.{◌↔◌, IsTrue}, List.range_with_len, Simd.Lanes.mask_l}
use Rattle.guest_rules.specs.Pages.{page_of}
use Rattle.epoch_snapshot.specs.Blocks.{IsPageIn, block_in, block_differs, changed_mask, differ}
use Rattle.full_text.specs.Full.{zeros}
use Rattle.full_text.specs.UsedPages.{used_flags, used_mask}
use Rattle.full_text.proofs.RecordLemmas.{length-block}

zero_block : (m n : ℕ) → 64 * n + 64 ≤ m → block_in (replicate m 0) n ≡ replicate 64 0
zero_block m n within = ap (take {A = ℕ} 64) (drop-replicate (64 * n) m 0) ∙ take-replicate 64 (m - 64 * n) 0 (omega arith)

none-differ : (n : ℕ) (b : List ℕ) → All (λ (x : ℕ). x ≡ 0) b → differ (replicate n 0) b ≡ false
none-differ zero b all = refl
none-differ (suc n) [] all = refl
none-differ (suc n) (x ∷ xs) all =
    ap (λ y. not (0 == y) || differ (replicate n 0) xs) (All-head (λ (x : ℕ). x ≡ 0) x xs all)
    ∙ none-differ n xs (All-tail (λ (x : ℕ). x ≡ 0) x xs all)

-- a page that is all zero has no block that differs
pub zero-mask : (page : List ℕ) → All (λ (x : ℕ). x ≡ 0) page → 0 ≡ used_mask page 64
zero-mask page all =
    let flag : ℕ → Bool = λ i. differ (replicate 64 0) (block_in page i) in
    let none : (i : ℕ) → flag i ≡ false =
    λ i. none-differ 64 (block_in page i)
    (All-take (λ (x : ℕ). x ≡ 0) 64 (drop (64 * i) page) (All-drop (λ (x : ℕ). x ≡ 0) (64 * i) page all)) in
    let flags : used_flags page 64 ≡ map (λ i. false) (range_with_len 0 64) =
    fill_by_all (λ i. false) (used_flags page 64) 64 false (length-map-range_with_len flag 0 64)
    (λ k below. get_or-map-range_with_len flag 0 64 k k false below (omega arith) ∙ none k) in
    sym (ap mask_l flags)

all-zero : (n : ℕ) (b : List ℕ) → length b ≡ n → differ (replicate n 0) b ≡ false → All (λ (x : ℕ). x ≡ 0) b
all-zero n [] long same = All-nil (λ (x : ℕ). x ≡ 0)
all-zero zero (x ∷ xs) long same = absurd (omega arith)
all-zero (suc n) (zero ∷ xs) long same = All-cons (λ (x : ℕ). x ≡ 0) zero xs refl (all-zero n xs (omega arith) same)
all-zero (suc n) (suc x ∷ xs) long same =
    let apart : (0 == suc x) ≡ false = ne_eqb 0 (suc x) (λ e. omega (arith, e)) in
    absurd (true≢false (sym (ap (λ b. not b || differ (replicate n 0) xs) apart) ∙ same))

-- a test of whether a block is all zero says whether it differs from zeros
zero-differs : (n : ℕ) (b : List ℕ) (r : Bool) → length b ≡ n → IsTrue r ↔ All (λ (x : ℕ). x ≡ 0) b → not r ≡ differ (replicate n 0) b
zero-differs n b true long says = sym (none-differ n b (says.0 refl))
zero-differs n b false long says = by_value (differ (replicate n 0) b) refl
  where
    by_value : (d : Bool) → differ (replicate n 0) b ≡ d → true ≡ differ (replicate n 0) b
    by_value true e = sym e
    by_value false e = absurd (true≢false (sym (says.1 (all-zero n b long e))))

pub block-flag : (page block : List ℕ) (n : ℕ) (r : Bool) → length page ≡ 4096 → n < 64 → block ≡ block_in page n
    → IsTrue r ↔ All (λ (x : ℕ). x ≡ 0) block → not r ≡ differ (replicate 64 0) (block_in page n)
block-flag page block n r long below is says =
    zero-differs 64 block r (ap (λ (l : List ℕ). length l) is ∙ length-block page n (omega (arith, long, below))) says
    ∙ ap (differ (replicate 64 0)) is

-- a flag behind the others is one bit above them
mask-push : (xs : List Bool) (b : Bool) → mask_l (xs ++ b ∷ []) ≡ mask_l xs + cond b 1 0 * 2 ^ length xs
mask-push [] true = refl
mask-push [] false = refl
mask-push (x ∷ xs) true = omega (arith, mask-push xs true, two-pow-succ (length xs))
mask-push (x ∷ xs) false = omega (arith, mask-push xs false)

mask-more : (page : List ℕ) (n mask : ℕ) (b : Bool) → b ≡ differ (replicate 64 0) (block_in page n) → mask ≡ used_mask page n
    → mask + cond b 1 0 * 2 ^ n ≡ used_mask page (n + 1)
mask-more page n mask b flag is =
    let more : used_flags page (n + 1) ≡ used_flags page n ++ b ∷ [] =
    map-range_with_len_more (λ i. differ (replicate 64 0) (block_in page i)) 0 n n (omega arith)
    ∙ ap (λ d. used_flags page n ++ d ∷ []) (sym flag) in
    (λ i. is i + cond b 1 0 * 2 ^ n)
    ∙ ap (λ k. mask_l (used_flags page n) + cond b 1 0 * 2 ^ k)
    (sym (length-map-range_with_len (λ i. differ (replicate 64 0) (block_in page i)) 0 n))
    ∙ sym (ap mask_l more ∙ mask-push (used_flags page n) b)

bit_of : (b : Bool) → bool_byte b ≡ cond b 1 0
bit_of true = refl
bit_of false = refl

small-step : (mask more total : ℕ) → mask + more ≡ total → total < 2 ^ 64 → mask + more % 2 ^ 64 ≡ total
small-step mask more total e small = omega (arith, e, small)

module _ (page : List ℕ) (n mask bit : ℕ) (b : Bool) (below : n < 64) (is : bit ≡ bool_byte b)
    (flag : b ≡ differ (replicate 64 0) (block_in page n)) (so_far : mask ≡ used_mask page n) where
  flags-fit : used_mask page (n + 1) < 2 ^ 64
  flags-fit =
      omega (
        arith,
        mask_l-mod (used_flags page (n + 1)) 64 (omega (
          arith,
          below,
          length-map-range_with_len (λ i. differ (replicate 64 0) (block_in page i)) 0 (n + 1),
        )),
      )

  pub mask-next : mask + (bit * 2 ^ n) % 2 ^ 64 ≡ used_mask page (n + 1)
  mask-next =
      small-step mask (bit * 2 ^ n) (used_mask page (n + 1))
      (ap (λ k. mask + k * 2 ^ n) (is ∙ bit_of b) ∙ mask-more page n mask b flag so_far) flags-fit

  pub mask-next-fits : mask + (bit * 2 ^ n) % 2 ^ 64 < 2 ^ 64
  mask-next-fits = subst (λ k. k < 2 ^ 64) (sym mask-next) flags-fit

-- a page of a memory differs from zeros where its own blocks do
module _ (law : (ram : List ℕ) (page : ℕ) → IsPageIn ram page (page_of ram page)) (ram : List ℕ) (page : ℕ)
    (within : 4096 * page + 4096 ≤ length ram) where
  block-same : (i : ℕ) → i < 64 → differ (replicate 64 0) (block_in (page_of ram page) i) ≡ block_differs (zeros ram) ram (64 * page + i)
  block-same i below =
      ap (differ (replicate 64 0)) (law ram page i below)
      ∙ ap (λ z. differ z (block_in ram (64 * page + i))) (sym (zero_block (length ram) (64 * page + i) (omega (arith, within, below))))

  flags-same : used_flags (page_of ram page) 64 ≡ map (λ i. block_differs (zeros ram) ram (64 * page + i)) (range_with_len 0 64)
  flags-same =
      let own = λ (i : ℕ). differ (replicate 64 0) (block_in (page_of ram page) i) in
      fill_by_all (λ i. block_differs (zeros ram) ram (64 * page + i)) (used_flags (page_of ram page) 64) 64 false
      (length-map-range_with_len own 0 64)
      (λ k below. get_or-map-range_with_len own 0 64 k k false below (omega arith) ∙ block-same k below)

  pub mask-whole : (bytes : List ℕ) (n mask : ℕ) → bytes ≡ page_of ram page → n ≡ 64 → mask ≡ used_mask bytes n
      → mask ≡ changed_mask (zeros ram) ram page
  unfolding changed_mask
  mask-whole bytes n mask whole end is = is ∙ (λ i. used_mask (whole i) (end i)) ∙ ap mask_l flags-same
