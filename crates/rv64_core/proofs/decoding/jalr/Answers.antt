-- Written by tools/write_decoder_proofs: the row that each arm finds.
use Rattle.std.proofs.Common.{arith, sym}
use Rattle.rv64_core.proofs.Found.{reads_jalr, none_jalr}
use Rattle.rv64_core.proofs.decoding.jalr.Goals as goal

pub returns-in-0 : goal.returns-in-0
returns-in-0 c = grind (arith, reads_jalr c.args.word (omega arith) (omega arith))

pub returns-in_default : goal.returns-in_default
returns-in_default c = sym (none_jalr c.args.word (omega arith) (λ e. omega arith))
