use Rattle.std.proofs.Common.{◌==◌, arith}
use Rattle.std.specs.Int.{bit_at}
use Rattle.epoch_snapshot.specs.laws.{Masks.length-set_blocks, Pages.{filter_last, fewer_blocks}}
use Rattle.epoch_snapshot.proofs.laws.masks_name_blocks.Goals as goal

pub returns-clause-next : goal.returns-clause-next
returns-clause-next c = λ mask n. filter_last (λ i. bit_at mask i == 1) n

pub returns-clause-fewer : goal.returns-clause-fewer
returns-clause-fewer c = λ mask n fits below set. omega (arith, fewer_blocks mask n below set, length-set_blocks mask fits)

pub returns-clause-all : goal.returns-clause-all
returns-clause-all c = length-set_blocks
