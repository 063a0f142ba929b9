-- Written by tools/write_decoder_proofs: the row that each arm finds.
use Rattle.std.proofs.Common.{arith, sym}
use Rattle.rv64_core.proofs.Found.{
  reads_ecall,
  reads_ebreak,
  reads_mret,
  reads_wfi,
  none_system,
  reads_csrrw,
  reads_csrrs,
  reads_csrrc,
  reads_csrrwi,
  reads_csrrsi,
  reads_csrrci,
  none_system_1,
}
use Rattle.rv64_core.proofs.decoding.system.Goals as goal

pub returns-in-115 : goal.returns-in-115
returns-in-115 c = grind (arith, reads_ecall c.args.word (omega arith))

pub returns-in-1048691 : goal.returns-in-1048691
returns-in-1048691 c = grind (arith, reads_ebreak c.args.word (omega arith))

pub returns-in-807403635 : goal.returns-in-807403635
returns-in-807403635 c = grind (arith, reads_mret c.args.word (omega arith))

pub returns-in-273678451 : goal.returns-in-273678451
returns-in-273678451 c = grind (arith, reads_wfi c.args.word (omega arith))

pub returns-in_default-word : goal.returns-in_default-word
returns-in_default-word c =
    sym (none_system c.args.word (omega arith) (omega arith) (omega arith) (λ e. omega arith) (λ e. omega arith) (λ e. omega arith)
    (λ e. omega arith))

pub returns-in-4096 : goal.returns-in-4096
returns-in-4096 c = grind (arith, reads_csrrw c.args.word (omega arith) (omega arith))

pub returns-in-8192 : goal.returns-in-8192
returns-in-8192 c = grind (arith, reads_csrrs c.args.word (omega arith) (omega arith))

pub returns-in-12288 : goal.returns-in-12288
returns-in-12288 c = grind (arith, reads_csrrc c.args.word (omega arith) (omega arith))

pub returns-in-20480 : goal.returns-in-20480
returns-in-20480 c = grind (arith, reads_csrrwi c.args.word (omega arith) (omega arith))

pub returns-in-24576 : goal.returns-in-24576
returns-in-24576 c = grind (arith, reads_csrrsi c.args.word (omega arith) (omega arith))

pub returns-in-28672 : goal.returns-in-28672
returns-in-28672 c = grind (arith, reads_csrrci c.args.word (omega arith) (omega arith))

pub returns-in_default : goal.returns-in_default
returns-in_default c =
    sym (none_system_1 c.args.word (omega arith) (λ e. omega arith) (λ e. omega arith) (λ e. omega arith) (λ e. omega arith)
    (λ e. omega arith) (λ e. omega arith) (λ e. omega arith))
