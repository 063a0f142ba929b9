-- Written by tools/write_decoder_proofs: the row that each arm finds.
use Rattle.std.proofs.Common.{arith, sym}
use Rattle.rv64_core.proofs.Found.{reads_beq, reads_bne, reads_blt, reads_bge, reads_bltu, reads_bgeu, none_branch}
use Rattle.rv64_core.proofs.decoding.branch.Goals as goal

pub returns-in-0 : goal.returns-in-0
returns-in-0 c = grind (arith, reads_beq c.args.word (omega arith) (omega arith))

pub returns-in-4096 : goal.returns-in-4096
returns-in-4096 c = grind (arith, reads_bne c.args.word (omega arith) (omega arith))

pub returns-in-16384 : goal.returns-in-16384
returns-in-16384 c = grind (arith, reads_blt c.args.word (omega arith) (omega arith))

pub returns-in-20480 : goal.returns-in-20480
returns-in-20480 c = grind (arith, reads_bge c.args.word (omega arith) (omega arith))

pub returns-in-24576 : goal.returns-in-24576
returns-in-24576 c = grind (arith, reads_bltu c.args.word (omega arith) (omega arith))

pub returns-in-28672 : goal.returns-in-28672
returns-in-28672 c = grind (arith, reads_bgeu c.args.word (omega arith) (omega arith))

pub returns-in_default : goal.returns-in_default
returns-in_default c =
    sym (none_branch c.args.word (omega arith) (λ e. omega arith) (λ e. omega arith) (λ e. omega arith) (λ e. omega arith)
    (λ e. omega arith) (λ e. omega arith))
