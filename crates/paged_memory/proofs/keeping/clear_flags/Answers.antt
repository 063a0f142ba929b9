use Rattle.std.proofs.{Common.{◌<◌, length}, lemmas.List.Elements.All-get_or}
use Rattle.paged_memory.proofs.ListedLemmas.{one_cleared, all_cleared}
use Rattle.paged_memory.proofs.keeping.clear_flags.Goals as goal

pub loop-page-preserved : goal.loop-page-preserved
loop-page-preserved c =
    let number = length c.args.flags.now.items in
    let inside = All-get_or (λ page. page < number) c.args.pages.now c.loop-page.page-index 0 c.loop-page-test.true c.requires.inside in
    one_cleared c.loop-page.flags.items c.args.pages.now c.loop-page.page-index number c.loop-page-test.true inside c.loop-page.invariant

pub returns : goal.returns
returns c =
    all_cleared c.loop-page.flags.items c.args.pages.now c.loop-page.page-index (length c.args.flags.now.items) c.loop-page-test.false
    c.loop-page.invariant
