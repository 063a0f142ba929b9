-- Written by tools/write_decoder_proofs: the row that each arm finds.
use Rattle.std.proofs.Common.{arith, sym}
use Rattle.rv64_core.proofs.Found.{reads_lui, reads_auipc, reads_jal, none_by_opcode}
use Rattle.rv64_core.proofs.decoding.by_opcode.Goals as goal

pub returns-in-55 : goal.returns-in-55
returns-in-55 c = grind (arith, reads_lui c.args.word (omega arith))

pub returns-in-23 : goal.returns-in-23
returns-in-23 c = grind (arith, reads_auipc c.args.word (omega arith))

pub returns-in-111 : goal.returns-in-111
returns-in-111 c = grind (arith, reads_jal c.args.word (omega arith))

pub returns-in_default : goal.returns-in_default
returns-in_default c =
    sym (none_by_opcode c.args.word (λ e. omega arith) (λ e. omega arith) (λ e. omega arith) (λ e. omega arith) (λ e. omega arith)
    (λ e. omega arith) (λ e. omega arith) (λ e. omega arith) (λ e. omega arith) (λ e. omega arith) (λ e. omega arith) (λ e. omega arith)
    (λ e. omega arith))
