-- Each block of the page is the same block of what the checkpoint is cut over.
use Rattle.std.proofs.Common.{◌+◌, ◌*◌, length, ap, sym, ◌∙◌, arith}
use Rattle.epoch_cuts.specs.Over.{old_ram}
use Rattle.epoch_snapshot.{specs.Blocks.block_in, specs.laws.Pages.{block_in-page, zero_block}}
use Rattle.epoch_cuts.proofs.memory.old_page.Goals as goal

pub returns-in-Settled : goal.returns-in-Settled
returns-in-Settled c = λ i below. ap (λ p. block_in p i) c.original.ensures.value
    ∙ block_in-page c.args.machine.now.settled c.args.page i below
    ∙ ap (λ o. block_in (old_ram o c.args.machine.now) (64 * c.args.page + i)) (sym c.in-Settled.is)

pub returns-in-Zero : goal.returns-in-Zero
returns-in-Zero c = λ i below. zero_block 4096 i (omega arith)
    ∙ sym (zero_block (length c.args.machine.now.guest.ram) (64 * c.args.page + i) (omega arith))
    ∙ ap (λ o. block_in (old_ram o c.args.machine.now) (64 * c.args.page + i)) (sym c.in-Zero.is)
