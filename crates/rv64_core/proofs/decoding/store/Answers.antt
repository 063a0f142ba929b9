-- Written by tools/write_decoder_proofs: the row that each arm finds.
use Rattle.std.proofs.Common.{arith, sym}
use Rattle.rv64_core.proofs.Found.{reads_sb, reads_sh, reads_sw, reads_sd, none_store}
use Rattle.rv64_core.proofs.decoding.store.Goals as goal

pub returns-in-0 : goal.returns-in-0
returns-in-0 c = grind (arith, reads_sb c.args.word (omega arith) (omega arith))

pub returns-in-4096 : goal.returns-in-4096
returns-in-4096 c = grind (arith, reads_sh c.args.word (omega arith) (omega arith))

pub returns-in-8192 : goal.returns-in-8192
returns-in-8192 c = grind (arith, reads_sw c.args.word (omega arith) (omega arith))

pub returns-in-12288 : goal.returns-in-12288
returns-in-12288 c = grind (arith, reads_sd c.args.word (omega arith) (omega arith))

pub returns-in_default : goal.returns-in_default
returns-in_default c =
    sym (none_store c.args.word (omega arith) (λ e. omega arith) (λ e. omega arith) (λ e. omega arith) (λ e. omega arith))
