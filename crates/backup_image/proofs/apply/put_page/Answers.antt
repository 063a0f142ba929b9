-- One block more.
use Rattle.std.proofs.Common.{[], ◌∙◌, arith}
use Rattle.backup_image.proofs.PutLemmas.{page-begins, enough-at, page-put, page-skip, page-done}
use Rattle.backup_image.proofs.apply.put_page.Goals as goal
use Rattle.backup_image.proofs.apply.put_page.Goals.{then-mask-block-eq1, else-mask-block-eq1}

pub loop-block-init : goal.loop-block-init
loop-block-init c = page-begins c.args.machine.now c.args.page c.args.mask c.args.blocks.now
    (omega (arith, c.masks_name_blocks.ensures.all c.args.mask c.ranges.mask.fits, c.requires.enough))

pub loop-block-preserved : goal.loop-block-preserved
loop-block-preserved c =
    elim c.if-mask-block-eq1.branch [
      | then-mask-block-eq1 w ↦
          let within = enough-at c.args.mask c.loop-block.block c.loop-block.next c.args.blocks.now (omega arith)
          w.if-mask-block-eq1.true c.loop-block.invariant.enough in
          page-put c.args.machine.now c.loop-block.machine c.if-mask-block-eq1.machine c.args.page c.args.mask c.loop-block.block
          c.loop-block.next c.if-mask-block-eq1.next
          c.args.blocks.now [] c.loop-block.invariant (omega arith) w.if-mask-block-eq1.true (c.told-blocks c.loop-block.next within)
          c.requires.inside c.requires.whole
          (w.machine-is ∙ w.xor_settled.ensures) w.next-is
      | else-mask-block-eq1 w ↦
          page-skip c.args.machine.now c.loop-block.machine c.if-mask-block-eq1.machine c.args.page c.args.mask c.loop-block.block
          c.loop-block.next c.if-mask-block-eq1.next
          c.args.blocks.now c.loop-block.invariant (omega arith) w.if-mask-block-eq1.false w.machine-is w.next-is
    ]

pub returns-clause-guest : goal.returns-clause-guest
returns-clause-guest c =
    page-done c.args.machine.now c.loop-block.machine c.args.page c.args.mask c.loop-block.block c.loop-block.next c.args.blocks.now
    c.loop-block.invariant (omega arith)

pub returns-clause-count : goal.returns-clause-count
returns-clause-count c = c.masks_name_blocks.ensures.all c.args.mask c.ranges.mask.fits
