-- A page's mask speaks of its blocks, which are blocks of memory.
use Rattle.std.proofs.Common.{ap, ◌∙◌, arith}
use Rattle.epoch_cuts.specs.Over.{old_ram}
use Rattle.epoch_snapshot.{specs.Blocks.block_in, specs.laws.Pages.{block_in-page, mask-pages}}
use Rattle.epoch_cuts.proofs.memory.page_mask.Goals as goal

pub returns : goal.returns
returns c =
    mask-pages (old_ram c.args.over c.args.machine.now) c.args.machine.now.guest.ram c.args.page c.mask.result c.old_page.result.now
    c.page.result.now
    (omega (arith, c.mask.type_inv)) c.old_page.ensures
    (λ i below. ap (λ p. block_in p i) c.page.ensures ∙ block_in-page c.args.machine.now.guest.ram c.args.page i below)
    c.mask.ensures.bytes
