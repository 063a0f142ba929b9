-- The mask has the flags of the blocks so far.
use Rattle.std.proofs.Common.{◌≡◌}
use Rattle.full_text.specs.UsedPages.{used_mask}
use Rattle.full_text.proofs.found.page_mask.Given as goal

abbrev pub invariant-loop-number : goal.invariant-loop-number
invariant-loop-number l = l.mask ≡ used_mask l.page l.number
