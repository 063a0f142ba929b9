-- Written by tools/write_decoder_proofs: the row that each arm finds.
use Rattle.std.proofs.Common.{arith, sym}
use Rattle.rv64_core.proofs.Found.{
  reads_addi,
  reads_slli,
  none_op_imm,
  reads_slti,
  reads_sltiu,
  reads_xori,
  reads_srli,
  reads_srai,
  none_op_imm_1,
  reads_ori,
  reads_andi,
  last_funct3,
}
use Rattle.rv64_core.proofs.decoding.op_imm.Goals as goal

pub returns-in-0 : goal.returns-in-0
returns-in-0 c = grind (arith, reads_addi c.args.word (omega arith) (omega arith))

pub returns-in-0-2 : goal.returns-in-0-2
returns-in-0-2 c = grind (arith, reads_slli c.args.word (omega arith) (omega arith) (omega arith))

pub returns-in_default-2 : goal.returns-in_default-2
returns-in_default-2 c = sym (none_op_imm c.args.word (omega arith) (omega arith) (λ e. omega arith))

pub returns-in-8192 : goal.returns-in-8192
returns-in-8192 c = grind (arith, reads_slti c.args.word (omega arith) (omega arith))

pub returns-in-12288 : goal.returns-in-12288
returns-in-12288 c = grind (arith, reads_sltiu c.args.word (omega arith) (omega arith))

pub returns-in-16384 : goal.returns-in-16384
returns-in-16384 c = grind (arith, reads_xori c.args.word (omega arith) (omega arith))

pub returns-in-0-3 : goal.returns-in-0-3
returns-in-0-3 c = grind (arith, reads_srli c.args.word (omega arith) (omega arith) (omega arith))

pub returns-in-1073741824 : goal.returns-in-1073741824
returns-in-1073741824 c = grind (arith, reads_srai c.args.word (omega arith) (omega arith) (omega arith))

pub returns-in_default-3 : goal.returns-in_default-3
returns-in_default-3 c = sym (none_op_imm_1 c.args.word (omega arith) (omega arith) (λ e. omega arith) (λ e. omega arith))

pub returns-in-24576 : goal.returns-in-24576
returns-in-24576 c = grind (arith, reads_ori c.args.word (omega arith) (omega arith))

pub returns-in_default : goal.returns-in_default
returns-in_default c =
    grind (
      arith,
      reads_andi c.args.word (omega arith)
          (last_funct3 c.args.word (λ e. omega arith) (λ e. omega arith) (λ e. omega arith) (λ e. omega arith) (λ e. omega arith)
          (λ e. omega arith) (λ e. omega arith)),
    )
