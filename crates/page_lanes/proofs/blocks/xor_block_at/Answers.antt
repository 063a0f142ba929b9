-- A store of 64 lanes changes the bytes from its place on, and no other.
use Rattle.std.proofs.Common.{◌≡◌, ◌++◌, length, take, drop, ◌∙◌, ap, arith, bit_xor}
use Rattle.std.proofs.lemmas.Simd.{put_chunk_is, length-zip2, length-chunk}
use Rattle.std.proofs.Math.Seq.{drop-drop}
use Rattle.page_lanes.specs.Kernels.{xored}
use Rattle.page_lanes.proofs.blocks.xor_block_at.Goals as goal

pub returns : goal.returns
returns c =
    let s = c.args.into.now in
    let at = c.args.at in
    let part = take 64 (drop at s) in
    let lanes = xored part c.args.block.now in
    let part_len : length part ≡ 64 = length-chunk at 64 s (omega arith) in
    let lanes_len : length lanes ≡ 64 = length-zip2 bit_xor part c.args.block.now (omega (arith, part_len)) ∙ part_len in
    put_chunk_is at s lanes (omega (arith, lanes_len))
    ∙ ap (λ n. take at s ++ (lanes ++ drop n (drop at s))) lanes_len
    ∙ ap (λ l. take at s ++ (lanes ++ l)) (drop-drop 64 at s)
