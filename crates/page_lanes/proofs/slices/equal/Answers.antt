-- One block more is equal, or some block isn't, and then the rest.
use Rattle.std.proofs.Common.{◌+◌, ◌*◌, ℕ, List, [], length, take, drop, get_or, sym, ◌∙◌, ap, arith}
use Rattle.page_lanes.proofs.BlockLemmas.{block_read, rest_is}
use Rattle.page_lanes.proofs.PartLemmas.{same-part, same-rest, length-part}
use Rattle.page_lanes.proofs.SideBySide.{differ-false}
use Rattle.page_lanes.proofs.slices.equal.Goals as goal

pub loop-i-preserved : goal.loop-i-preserved
loop-i-preserved c =
    let a = c.args.a.now in
    let b = c.args.b.now in
    let i = c.loop-i.i in
    let a_is = block_read a c.as_chunks.result.0.now i c.as_chunks.ensures.front (omega arith) in
    let b_is = block_read b c.as_chunks-2.result.0.now i c.as_chunks-2.ensures.front (omega arith) in
    let alike = differ-false (get_or c.as_chunks.result.0.now i []) (get_or c.as_chunks-2.result.0.now i []) (ap length a_is
    ∙ length-part a b i c.requires (omega arith) ∙ sym (ap length b_is)) (sym c.blocks_differ.ensures.bytes
    ∙ c.if-blocks_differ.false) in
    same-part a b (64 * i) 64 (64 * (i + 1)) (omega arith) c.loop-i.invariant (sym a_is ∙ alike ∙ b_is)

pub returns-then-blocks_differ : goal.returns-then-blocks_differ
returns-then-blocks_differ c =
    let a = c.args.a.now in
    let b = c.args.b.now in
    let i = c.loop-i.i in
    let a_is = block_read a c.as_chunks.result.0.now i c.as_chunks.ensures.front (omega arith) in
    let b_is = block_read b c.as_chunks-2.result.0.now i c.as_chunks-2.ensures.front (omega arith) in (
      λ no. cc,
      λ same. absurd (c.blocks_differ.ensures.blocks.0 c.if-blocks_differ.true (a_is
          ∙ ap (λ (l : List ℕ). take 64 (drop (64 * i) l)) same ∙ sym b_is)),
    )

pub returns : goal.returns
returns c =
    let a = c.args.a.now in
    let b = c.args.b.now in
    let m = 64 * c.loop-i.i in
    let a_rest = rest_is a c.as_chunks.result.1.now c.loop-i.i c.as_chunks.ensures.back (omega arith) in
    let b_rest = rest_is b c.as_chunks-2.result.1.now c.loop-i.i c.as_chunks-2.ensures.back (omega arith) in (
      λ yes. same-rest a b m c.loop-i.invariant (sym a_rest ∙ c.equal_bytes.ensures.0 yes ∙ b_rest),
      λ same. c.equal_bytes.ensures.1 (a_rest ∙ ap (drop m) same ∙ sym b_rest),
    )
