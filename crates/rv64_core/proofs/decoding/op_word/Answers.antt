-- Written by tools/write_decoder_proofs: the row that each arm finds.
use Rattle.std.proofs.Common.{arith, sym}
use Rattle.rv64_core.proofs.Found.{
  reads_addw,
  reads_sllw,
  reads_srlw,
  none_op_word,
  reads_mulw,
  reads_divw,
  reads_divuw,
  reads_remw,
  reads_remuw,
  none_op_word_1,
  reads_subw,
  reads_sraw,
  none_op_word_2,
  none_op_word_3,
}
use Rattle.rv64_core.proofs.decoding.op_word.Goals as goal

pub returns-in-0-2 : goal.returns-in-0-2
returns-in-0-2 c = grind (arith, reads_addw c.args.word (omega arith) (omega arith) (omega arith))

pub returns-in-4096 : goal.returns-in-4096
returns-in-4096 c = grind (arith, reads_sllw c.args.word (omega arith) (omega arith) (omega arith))

pub returns-in-20480 : goal.returns-in-20480
returns-in-20480 c = grind (arith, reads_srlw c.args.word (omega arith) (omega arith) (omega arith))

pub returns-in_default-2 : goal.returns-in_default-2
returns-in_default-2 c = sym (none_op_word c.args.word (omega arith) (omega arith) (λ e. omega arith) (λ e. omega arith) (λ e. omega arith))

pub returns-in-0-3 : goal.returns-in-0-3
returns-in-0-3 c = grind (arith, reads_mulw c.args.word (omega arith) (omega arith) (omega arith))

pub returns-in-16384 : goal.returns-in-16384
returns-in-16384 c = grind (arith, reads_divw c.args.word (omega arith) (omega arith) (omega arith))

pub returns-in-20480-2 : goal.returns-in-20480-2
returns-in-20480-2 c = grind (arith, reads_divuw c.args.word (omega arith) (omega arith) (omega arith))

pub returns-in-24576 : goal.returns-in-24576
returns-in-24576 c = grind (arith, reads_remw c.args.word (omega arith) (omega arith) (omega arith))

pub returns-in-28672 : goal.returns-in-28672
returns-in-28672 c = grind (arith, reads_remuw c.args.word (omega arith) (omega arith) (omega arith))

pub returns-in_default-3 : goal.returns-in_default-3
returns-in_default-3 c =
    sym (none_op_word_1 c.args.word (omega arith) (omega arith) (λ e. omega arith) (λ e. omega arith) (λ e. omega arith) (λ e. omega arith)
    (λ e. omega arith))

pub returns-in-0-4 : goal.returns-in-0-4
returns-in-0-4 c = grind (arith, reads_subw c.args.word (omega arith) (omega arith) (omega arith))

pub returns-in-20480-3 : goal.returns-in-20480-3
returns-in-20480-3 c = grind (arith, reads_sraw c.args.word (omega arith) (omega arith) (omega arith))

pub returns-in_default-4 : goal.returns-in_default-4
returns-in_default-4 c = sym (none_op_word_2 c.args.word (omega arith) (omega arith) (λ e. omega arith) (λ e. omega arith))

pub returns-in_default : goal.returns-in_default
returns-in_default c = sym (none_op_word_3 c.args.word (omega arith) (λ e. omega arith) (λ e. omega arith) (λ e. omega arith))
