-- All blocks make the mask.
use Rattle.std.proofs.Common.{◌≡◌, ap, ◌∙◌, arith}
use Rattle.full_text.specs.UsedPages.{used_mask}
use Rattle.full_text.proofs.found.page_mask.Goals as goal

pub returns : goal.returns
returns c =
    let end : c.loop-number.number ≡ 64 = omega (arith, c.loop-number-test.false, c.loop-number.auto.number-end) in
    c.loop-number.invariant ∙ ap (used_mask c.args.page.now) end
