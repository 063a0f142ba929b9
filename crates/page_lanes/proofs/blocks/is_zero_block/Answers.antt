-- A block whose bytes are all 0 is the block of zeros.
use Rattle.std.proofs.Common.{arith}
use Rattle.page_lanes.proofs.ZeroLemmas.{zero-tells}
use Rattle.page_lanes.proofs.blocks.is_zero_block.Goals as goal

pub returns : goal.returns
returns c = zero-tells c.args.block.now 64 c.blocks_differ.result (omega arith) c.blocks_differ.ensures.bytes
