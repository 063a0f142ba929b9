-- Written by tools/write_decoder_proofs: the row that each arm finds.
use Rattle.std.proofs.Common.{arith, sym}
use Rattle.rv64_core.proofs.Found.{
  reads_add,
  reads_sll,
  reads_slt,
  reads_sltu,
  reads_xor,
  reads_srl,
  reads_or,
  reads_and,
  last_funct3,
  reads_mul,
  reads_mulh,
  reads_mulhsu,
  reads_mulhu,
  reads_div,
  reads_divu,
  reads_rem,
  reads_remu,
  reads_sub,
  reads_sra,
  none_op,
  none_op_1,
}
use Rattle.rv64_core.proofs.decoding.op.Goals as goal

pub returns-in-0-2 : goal.returns-in-0-2
returns-in-0-2 c = grind (arith, reads_add c.args.word (omega arith) (omega arith) (omega arith))

pub returns-in-4096 : goal.returns-in-4096
returns-in-4096 c = grind (arith, reads_sll c.args.word (omega arith) (omega arith) (omega arith))

pub returns-in-8192 : goal.returns-in-8192
returns-in-8192 c = grind (arith, reads_slt c.args.word (omega arith) (omega arith) (omega arith))

pub returns-in-12288 : goal.returns-in-12288
returns-in-12288 c = grind (arith, reads_sltu c.args.word (omega arith) (omega arith) (omega arith))

pub returns-in-16384 : goal.returns-in-16384
returns-in-16384 c = grind (arith, reads_xor c.args.word (omega arith) (omega arith) (omega arith))

pub returns-in-20480 : goal.returns-in-20480
returns-in-20480 c = grind (arith, reads_srl c.args.word (omega arith) (omega arith) (omega arith))

pub returns-in-24576 : goal.returns-in-24576
returns-in-24576 c = grind (arith, reads_or c.args.word (omega arith) (omega arith) (omega arith))

pub returns-in_default-2 : goal.returns-in_default-2
returns-in_default-2 c =
    grind (
      arith,
      reads_and c.args.word (omega arith)
          (last_funct3 c.args.word (λ e. omega arith) (λ e. omega arith) (λ e. omega arith) (λ e. omega arith) (λ e. omega arith)
          (λ e. omega arith) (λ e. omega arith)) (omega arith),
    )

pub returns-in-0-3 : goal.returns-in-0-3
returns-in-0-3 c = grind (arith, reads_mul c.args.word (omega arith) (omega arith) (omega arith))

pub returns-in-4096-2 : goal.returns-in-4096-2
returns-in-4096-2 c = grind (arith, reads_mulh c.args.word (omega arith) (omega arith) (omega arith))

pub returns-in-8192-2 : goal.returns-in-8192-2
returns-in-8192-2 c = grind (arith, reads_mulhsu c.args.word (omega arith) (omega arith) (omega arith))

pub returns-in-12288-2 : goal.returns-in-12288-2
returns-in-12288-2 c = grind (arith, reads_mulhu c.args.word (omega arith) (omega arith) (omega arith))

pub returns-in-16384-2 : goal.returns-in-16384-2
returns-in-16384-2 c = grind (arith, reads_div c.args.word (omega arith) (omega arith) (omega arith))

pub returns-in-20480-2 : goal.returns-in-20480-2
returns-in-20480-2 c = grind (arith, reads_divu c.args.word (omega arith) (omega arith) (omega arith))

pub returns-in-24576-2 : goal.returns-in-24576-2
returns-in-24576-2 c = grind (arith, reads_rem c.args.word (omega arith) (omega arith) (omega arith))

pub returns-in_default-3 : goal.returns-in_default-3
returns-in_default-3 c =
    grind (
      arith,
      reads_remu c.args.word (omega arith)
          (last_funct3 c.args.word (λ e. omega arith) (λ e. omega arith) (λ e. omega arith) (λ e. omega arith) (λ e. omega arith)
          (λ e. omega arith) (λ e. omega arith)) (omega arith),
    )

pub returns-in-0-4 : goal.returns-in-0-4
returns-in-0-4 c = grind (arith, reads_sub c.args.word (omega arith) (omega arith) (omega arith))

pub returns-in-20480-3 : goal.returns-in-20480-3
returns-in-20480-3 c = grind (arith, reads_sra c.args.word (omega arith) (omega arith) (omega arith))

pub returns-in_default-4 : goal.returns-in_default-4
returns-in_default-4 c = sym (none_op c.args.word (omega arith) (omega arith) (λ e. omega arith) (λ e. omega arith))

pub returns-in_default : goal.returns-in_default
returns-in_default c = sym (none_op_1 c.args.word (omega arith) (λ e. omega arith) (λ e. omega arith) (λ e. omega arith))
