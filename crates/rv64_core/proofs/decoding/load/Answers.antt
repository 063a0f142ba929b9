-- Written by tools/write_decoder_proofs: the row that each arm finds.
use Rattle.std.proofs.Common.{arith, sym}
use Rattle.rv64_core.proofs.Found.{reads_lb, reads_lh, reads_lw, reads_ld, reads_lbu, reads_lhu, reads_lwu, none_load}
use Rattle.rv64_core.proofs.decoding.load.Goals as goal

pub returns-in-0 : goal.returns-in-0
returns-in-0 c = grind (arith, reads_lb c.args.word (omega arith) (omega arith))

pub returns-in-4096 : goal.returns-in-4096
returns-in-4096 c = grind (arith, reads_lh c.args.word (omega arith) (omega arith))

pub returns-in-8192 : goal.returns-in-8192
returns-in-8192 c = grind (arith, reads_lw c.args.word (omega arith) (omega arith))

pub returns-in-12288 : goal.returns-in-12288
returns-in-12288 c = grind (arith, reads_ld c.args.word (omega arith) (omega arith))

pub returns-in-16384 : goal.returns-in-16384
returns-in-16384 c = grind (arith, reads_lbu c.args.word (omega arith) (omega arith))

pub returns-in-20480 : goal.returns-in-20480
returns-in-20480 c = grind (arith, reads_lhu c.args.word (omega arith) (omega arith))

pub returns-in-24576 : goal.returns-in-24576
returns-in-24576 c = grind (arith, reads_lwu c.args.word (omega arith) (omega arith))

pub returns-in_default : goal.returns-in_default
returns-in_default c =
    sym (none_load c.args.word (omega arith) (λ e. omega arith) (λ e. omega arith) (λ e. omega arith) (λ e. omega arith) (λ e. omega arith)
    (λ e. omega arith) (λ e. omega arith))
