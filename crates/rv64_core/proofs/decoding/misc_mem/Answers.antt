-- Written by tools/write_decoder_proofs: the row that each arm finds.
use Rattle.std.proofs.Common.{arith, sym}
use Rattle.rv64_core.proofs.Found.{reads_fence, none_misc_mem}
use Rattle.rv64_core.proofs.decoding.misc_mem.Goals as goal

pub returns-in-0 : goal.returns-in-0
returns-in-0 c = grind (arith, reads_fence c.args.word (omega arith) (omega arith))

pub returns-in_default : goal.returns-in_default
returns-in_default c = sym (none_misc_mem c.args.word (omega arith) (λ e. omega arith))
