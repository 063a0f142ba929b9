-- One block more is counted, and then the rest.
use Rattle.std.proofs.Common.{◌≡◌, ◌+◌, ◌*◌, ℕ, List, [], take, drop, get_or, ◌∙◌, ap, arith}
use Rattle.page_lanes.specs.Kernels.{differing}
use Rattle.page_lanes.proofs.BlockLemmas.{block_read, rest_is}
use Rattle.page_lanes.proofs.PartLemmas.{differing-part, differing-rest}
use Rattle.page_lanes.proofs.slices.count_differing.Goals as goal

pub loop-i-preserved : goal.loop-i-preserved
loop-i-preserved c =
    let a = c.args.a.now in
    let b = c.args.b.now in
    let i = c.loop-i.i in
    let a_is = block_read a c.as_chunks.result.0.now i c.as_chunks.ensures.front (omega arith) in
    let b_is = block_read b c.as_chunks-2.result.0.now i c.as_chunks-2.ensures.front (omega arith) in
    let next : c.bytes_differing-count.result ≡ differing (take 64 (drop (64 * i) a)) (take 64 (drop (64 * i) b)) =
    c.bytes_differing-count.ensures.count ∙ ap (λ l. differing l (get_or c.as_chunks-2.result.0.now i [])) a_is
    ∙ ap (λ l. differing (take 64 (drop (64 * i) a)) l) b_is in
    record {
      count = omega (arith, c.loop-i.invariant.count, next, differing-part a b (64 * i) 64 (64 * (i + 1)) (omega arith));
      few =
          omega (arith, c.loop-i.invariant.few, c.bytes_differing-count.ensures.few);
    }

pub returns : goal.returns
returns c =
    let a = c.args.a.now in
    let b = c.args.b.now in
    let m = 64 * c.loop-i.i in
    let a_rest : c.as_chunks.result.1.now ≡ drop m a = rest_is a c.as_chunks.result.1.now c.loop-i.i c.as_chunks.ensures.back
    (omega arith) in
    let b_rest : c.as_chunks-2.result.1.now ≡ drop m b = rest_is b c.as_chunks-2.result.1.now c.loop-i.i c.as_chunks-2.ensures.back
    (omega arith) in
    let last = c.count_bytes.ensures.count ∙ ap (λ (l : List ℕ). differing l c.as_chunks-2.result.1.now) a_rest
    ∙ ap (λ (l : List ℕ). differing (drop m a) l) b_rest in
    omega (arith, c.loop-i.invariant.count, last, differing-rest a b m)
