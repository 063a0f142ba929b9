-- A page's blocks are those that its mask names.
use Rattle.std.proofs.Common.{◌++◌, map, ap, sym, ◌∙◌, arith}
use Rattle.epoch_cuts.specs.Over.{old_ram}
use Rattle.epoch_snapshot.specs.{Blocks.block_in, Cuts.block_change}
use Rattle.epoch_snapshot.specs.laws.{Masks.length-set_blocks, Pages.{block_in-page, page_blocks, one_page}}
use Rattle.epoch_cuts.proofs.memory.push_page.Goals as goal

pub push_page_blocks-requires : goal.push_page_blocks-requires
push_page_blocks-requires c = omega (arith, c.in_ok-reserve.ensures.ok, length-set_blocks c.args.change.mask (omega arith))

pub returns-clause-blocks : goal.returns-clause-blocks
returns-clause-blocks c =
    let old = old_ram c.args.over c.args.machine.now in
    let new = c.args.machine.now.guest.ram in
    let p = c.args.change in
    c.push_page_blocks.ensures.items
    ∙ (λ j. c.in_ok-reserve.ensures.items j ++ page_blocks old new c.old_page.result.now c.page.result.now p.page p.mask c.old_page.ensures
    (λ i below. ap (λ q. block_in q i) c.page.ensures ∙ block_in-page new p.page i below) j)
    ∙ ap (λ ns. c.args.blocks.now.items ++ map (block_change old new) ns) (sym (one_page p))
