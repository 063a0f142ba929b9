-- As many bits of the mask are set as bytes differ.
use Rattle.std.proofs.Common.{arith}
use Rattle.page_lanes.proofs.BlockLemmas.{bits_of-ones}
use Rattle.page_lanes.proofs.blocks.bytes_differing.Goals as goal

pub returns-clause-count : goal.returns-clause-count
returns-clause-count c = bits_of-ones c.args.a.now c.args.b.now (omega arith) (omega arith)
