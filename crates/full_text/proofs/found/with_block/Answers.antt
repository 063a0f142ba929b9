-- The flag of one block more.
use Rattle.std.proofs.Common.{not, arith}
use Rattle.full_text.proofs.ZeroBlocks.{block-flag, mask-next, mask-next-fits}
use Rattle.full_text.proofs.found.with_block.Goals as goal

pub overflow_add-result : goal.overflow_add-result
overflow_add-result c =
    let page = c.args.page.now in
    let n = c.args.number in
    record {
      fits = mask-next-fits page n c.args.mask c.from.result (not c.is_zero.result) c.requires.below c.from.ensures
          (block-flag page c.block.result.now n c.is_zero.result (omega arith) c.requires.below c.block.ensures c.is_zero.ensures)
          c.requires.so_far;
    }

pub returns : goal.returns
returns c =
    let page = c.args.page.now in
    let n = c.args.number in
    mask-next page n c.args.mask c.from.result (not c.is_zero.result) c.requires.below c.from.ensures
    (block-flag page c.block.result.now n c.is_zero.result (omega arith) c.requires.below c.block.ensures c.is_zero.ensures)
    c.requires.so_far
