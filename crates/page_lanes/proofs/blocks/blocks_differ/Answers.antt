-- Some bit of the mask is set exactly where some byte differs.
use Rattle.std.proofs.Common.{arith}
use Rattle.page_lanes.proofs.BlockLemmas.{bits_of-any}
use Rattle.page_lanes.proofs.SideBySide.{differ-tells}
use Rattle.page_lanes.proofs.blocks.blocks_differ.Goals as goal

pub returns-clause-bytes : goal.returns-clause-bytes
returns-clause-bytes c = bits_of-any c.args.a.now c.args.b.now (omega arith) (omega arith)

pub returns-clause-blocks : goal.returns-clause-blocks
returns-clause-blocks c = differ-tells c.args.a.now c.args.b.now _ (omega arith) (bits_of-any c.args.a.now c.args.b.now (omega arith)
    (omega arith))
