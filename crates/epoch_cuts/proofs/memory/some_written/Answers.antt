-- A page that wasn't written is the same.
use Rattle.std.proofs.Common.{◌∙◌}
use Rattle.epoch_snapshot.specs.laws.{Xored.or_parts, Pages.changed_pages-same}
use Rattle.epoch_cuts.proofs.memory.some_written.Goals as goal

pub loop-page-preserved : goal.loop-page-preserved
loop-page-preserved c =
    λ none.
    let both = or_parts c.loop-page.some c.dirty-some.result none in
    changed_pages-same c.args.machine.now.settled c.args.machine.now.guest.ram c.loop-page.page (c.dirty-some.ensures.same both.1)
    ∙ c.loop-page.invariant both.0
