-- Written by tools/write_decoder_proofs: the row that each arm finds.
use Rattle.std.proofs.Common.{arith, sym}
use Rattle.rv64_core.proofs.Found.{
  reads_addiw,
  reads_slliw,
  none_op_imm_word,
  reads_srliw,
  reads_sraiw,
  none_op_imm_word_1,
  none_op_imm_word_2,
}
use Rattle.rv64_core.proofs.decoding.op_imm_word.Goals as goal

pub returns-in-0 : goal.returns-in-0
returns-in-0 c = grind (arith, reads_addiw c.args.word (omega arith) (omega arith))

pub returns-in-0-2 : goal.returns-in-0-2
returns-in-0-2 c = grind (arith, reads_slliw c.args.word (omega arith) (omega arith) (omega arith))

pub returns-in_default-2 : goal.returns-in_default-2
returns-in_default-2 c = sym (none_op_imm_word c.args.word (omega arith) (omega arith) (λ e. omega arith))

pub returns-in-0-3 : goal.returns-in-0-3
returns-in-0-3 c = grind (arith, reads_srliw c.args.word (omega arith) (omega arith) (omega arith))

pub returns-in-1073741824 : goal.returns-in-1073741824
returns-in-1073741824 c = grind (arith, reads_sraiw c.args.word (omega arith) (omega arith) (omega arith))

pub returns-in_default-3 : goal.returns-in_default-3
returns-in_default-3 c = sym (none_op_imm_word_1 c.args.word (omega arith) (omega arith) (λ e. omega arith) (λ e. omega arith))

pub returns-in_default : goal.returns-in_default
returns-in_default c = sym (none_op_imm_word_2 c.args.word (omega arith) (λ e. omega arith) (λ e. omega arith) (λ e. omega arith))
