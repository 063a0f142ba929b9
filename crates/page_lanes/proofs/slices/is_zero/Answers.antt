-- One block more is all 0, or some block isn't, and then the rest.
use Rattle.std.proofs.Common.{◌+◌, ◌*◌, [], take, drop, get_or, sym, arith}
use Rattle.std.proofs.lemmas.List.Elements.{All-same, All-take, All-drop}
use Rattle.page_lanes.proofs.BlockLemmas.{block_read, rest_is}
use Rattle.page_lanes.proofs.PartLemmas.{All-part, All-rest}
use Rattle.page_lanes.proofs.ZeroLemmas.{IsZero}
use Rattle.page_lanes.proofs.slices.is_zero.Goals as goal

pub loop-block-preserved : goal.loop-block-preserved
loop-block-preserved c =
    let s = c.args.bytes.now in
    let i = c.loop-block.block-index in
    let is = block_read s c.as_chunks.result.0.now i c.as_chunks.ensures.front (omega arith) in
    let next = All-same IsZero (take 64 (drop (64 * i) s)) (get_or c.as_chunks.result.0.now i []) (sym is) (c.is_zero_block.ensures.0
    c.if-not-is_zero_block.false) in
    All-part IsZero (64 * i) 64 (64 * (i + 1)) s (omega arith) c.loop-block.invariant next

pub returns-then-not-is_zero_block : goal.returns-then-not-is_zero_block
returns-then-not-is_zero_block c =
    let s = c.args.bytes.now in
    let i = c.loop-block.block-index in
    let is = block_read s c.as_chunks.result.0.now i c.as_chunks.ensures.front (omega arith) in (
      λ no. cc,
      λ zeros.
          let here = c.is_zero_block.ensures.1 (All-same IsZero (get_or c.as_chunks.result.0.now i []) (take 64 (drop (64 * i) s)) is
          (All-take IsZero 64 (drop (64 * i) s) (All-drop IsZero (64 * i) s zeros))) in
          cc (here, c.if-not-is_zero_block.true),
    )

pub returns : goal.returns
returns c =
    let s = c.args.bytes.now in
    let m = 64 * c.loop-block.block-index in
    let rest = rest_is s c.as_chunks.result.1.now c.loop-block.block-index c.as_chunks.ensures.back (omega arith) in (
      λ yes. All-rest IsZero m s c.loop-block.invariant (All-same IsZero (drop m s) c.as_chunks.result.1.now (sym rest)
          (c.zero_bytes.ensures.0 yes)),
      λ zeros. c.zero_bytes.ensures.1 (All-same IsZero c.as_chunks.result.1.now (drop m s) rest (All-drop IsZero m s zeros)),
    )
