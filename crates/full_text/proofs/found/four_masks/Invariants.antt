-- Each mask has the flags of its page's blocks so far.
use Rattle.std.proofs.Common.{◌≡◌}
use Rattle.full_text.specs.UsedPages.{used_mask}
use Rattle.full_text.proofs.found.four_masks.Given as goal

abbrev pub invariant-loop-number : goal.invariant-loop-number
invariant-loop-number l = record {
  first : l.a ≡ used_mask l.first l.number;
  second : l.b ≡ used_mask l.second l.number;
  third : l.c ≡ used_mask l.third l.number;
  fourth : l.d ≡ used_mask l.fourth l.number;
}
