-- One block more is changed, and then the rest.
use Rattle.std.proofs.Common.{◌≡◌, ◌+◌, ◌*◌, ℕ, List, [], ◌++◌, length, take, drop, get_or, refl, sym, ◌∙◌, ap, arith}
use Rattle.page_lanes.specs.Kernels.{xored}
use Rattle.page_lanes.proofs.BlockLemmas.{block_read, rest_is}
use Rattle.page_lanes.proofs.PartLemmas.{xored_to, xored_to-none, xored_to-part, xored_to-finish}
use Rattle.page_lanes.proofs.slices.xor_into.Goals as goal

pub loop-i-init : goal.loop-i-init
loop-i-init c = sym (xored_to-none c.args.into.now c.args.from.now)

pub loop-i-preserved : goal.loop-i-preserved
loop-i-preserved c =
    let s = c.args.into.now in
    let f = c.args.from.now in
    let i = c.loop-i.i in
    let m = 64 * i in
    let is = block_read f c.as_chunks.result.0.now i c.as_chunks.ensures.front (omega arith) in
    c.xor_block_at.ensures
    ∙ ap (λ (l : List ℕ). take m l ++ (xored (take 64 (drop m l)) (get_or c.as_chunks.result.0.now i []) ++ drop (m + 64) l))
    c.loop-i.invariant
    ∙ ap (λ (l : List ℕ). take m (xored_to m s f) ++ (xored (take 64 (drop m (xored_to m s f))) l ++ drop (m + 64) (xored_to m s f))) is
    ∙ xored_to-part s f c.requires m (omega arith) 64 (m + 64) refl
    ∙ ap (λ k. xored_to k s f) (let e : m + 64 ≡ 64 * (i + 1) = omega arith in e)

pub returns : goal.returns
returns c =
    let s = c.args.into.now in
    let f = c.args.from.now in
    let i = c.loop-i.i in
    let rest = rest_is f c.as_chunks.result.1.now i c.as_chunks.ensures.back (omega arith) in
    xored_to-finish s f c.loop-i.into c.xor_bytes.new.into c.as_chunks.result.1.now (64 * i) (64 * length c.as_chunks.result.0.now)
    c.requires (omega arith) (omega arith) c.loop-i.invariant rest c.xor_bytes.ensures
