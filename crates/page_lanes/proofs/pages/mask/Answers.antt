-- Each block's bit is put below those of the blocks after it.
use Rattle.std.proofs.Common.{◌≡◌, ℕ, ◌+◌, ◌-◌, ◌*◌, ◌≤◌, ◌<◌, ◌/◌, [], Bool, cond, List, length, get_or, refl, ◌∙◌, ap, arith}
use Rattle.std.specs.Simd.{first_chunks}
use Rattle.std.specs.Simd.Lanes.{mask_l}
use Rattle.page_lanes.specs.Kernels.{differ, block}
use Rattle.page_lanes.proofs.BlockLemmas.{get_or-first_chunks}
use Rattle.page_lanes.proofs.PageLemmas.{bool_byte-is, flags, mask_step, mask_step-fits, mask-tells, mask-tells_blocks}
use Rattle.page_lanes.proofs.pages.mask.Goals as goal

-- a block of a page, as the code reads it
block_read : (page : List ℕ) (blocks : List (List ℕ)) (i : ℕ) → blocks ≡ first_chunks 64 (length page / 64) page → length page ≡ 4096 →
    i < 64 → get_or blocks i [] ≡ block i page
block_read page blocks i is len lt =
    ap (λ (l : List (List ℕ)). get_or l i []) is ∙ get_or-first_chunks 64 (length page / 64) i page [] (omega arith)

-- one more block, as the code reads it
block_step : (a b : List ℕ) (blocks others : List (List ℕ)) (i mask bit : ℕ) (d : Bool) → blocks ≡ first_chunks 64 (length a / 64) a →
    others ≡ first_chunks 64 (length b / 64) b → length a ≡ 4096 → length b ≡ 4096 → 0 < i → i ≤ 64 →
    mask ≡ mask_l (flags a b i (64 - i)) → d ≡ differ (get_or blocks (i - 1) []) (get_or others (i - 1) []) → bit ≡ cond d 1 0 →
    2 * mask + bit ≡ mask_l (flags a b (i - 1) (64 - (i - 1)))
block_step a b blocks others i mask bit d blocks_are others_are a_len b_len low high mask_is d_is bit_is =
    let j = i - 1 in
    let a_is = block_read a blocks j blocks_are a_len (omega arith) in
    let b_is = block_read b others j others_are b_len (omega arith) in
    mask_step a b i j mask bit d high (omega arith) mask_is (d_is ∙ ap (λ l. differ l (get_or others j [])) a_is
    ∙ ap (λ l. differ (block j a) l) b_is) bit_is

pub loop-i-preserved : goal.loop-i-preserved
loop-i-preserved c = block_step c.args.a.now c.args.b.now c.as_chunks.result.0.now c.as_chunks-2.result.0.now c.loop-i.i c.loop-i.mask
    c.from.result c.blocks_differ.result c.as_chunks.ensures.front c.as_chunks-2.ensures.front (omega arith) (omega arith) (omega arith)
    (omega arith) c.loop-i.invariant c.blocks_differ.ensures.bytes (c.from.ensures ∙ bool_byte-is c.blocks_differ.result)

pub overflow_add-mask : goal.overflow_add-mask
overflow_add-mask c =
    let a = c.args.a.now in
    let b = c.args.b.now in
    let next = block_step a b c.as_chunks.result.0.now c.as_chunks-2.result.0.now c.loop-i.i c.loop-i.mask c.from.result
    c.blocks_differ.result c.as_chunks.ensures.front c.as_chunks-2.ensures.front (omega arith) (omega arith) (omega arith) (omega arith)
    c.loop-i.invariant c.blocks_differ.ensures.bytes (c.from.ensures ∙ bool_byte-is c.blocks_differ.result) in
    record { fits = mask_step-fits a b (c.loop-i.i - 1) (2 * c.loop-i.mask + c.from.result) next }

-- a mask of fewer blocks than 64 has room for one bit more
pub overflow_mul-mask : goal.overflow_mul-mask
overflow_mul-mask c =
    let a = c.args.a.now in
    let b = c.args.b.now in
    let i = c.loop-i.i in
    let j = i - 1 in
    let next = mask_step a b i j c.loop-i.mask (cond (differ (block j a) (block j b)) 1 0) (differ (block j a) (block j b)) (omega arith)
    (omega arith) c.loop-i.invariant refl refl in
    let fits = mask_step-fits a b j (2 * c.loop-i.mask + cond (differ (block j a) (block j b)) 1 0) next in
    record { fits = omega (arith, fits) }

-- at the loop's end
whole : (a b : List ℕ) (i mask : ℕ) → i ≡ 0 → mask ≡ mask_l (flags a b i (64 - i)) → mask ≡ mask_l (flags a b 0 64)
whole a b i mask none is = is ∙ ap (λ k. mask_l (flags a b k (64 - k))) none

pub returns-clause-bytes : goal.returns-clause-bytes
returns-clause-bytes c =
    let a = c.args.a.now in
    let b = c.args.b.now in
    λ i lt. mask-tells a b c.loop-i.mask i (whole a b c.loop-i.i c.loop-i.mask (omega arith) c.loop-i.invariant) lt

pub returns-clause-blocks : goal.returns-clause-blocks
returns-clause-blocks c =
    let a = c.args.a.now in
    let b = c.args.b.now in
    λ i lt. mask-tells_blocks a b c.loop-i.mask i (omega arith) (omega arith) (whole a b c.loop-i.i c.loop-i.mask (omega arith)
    c.loop-i.invariant) lt
