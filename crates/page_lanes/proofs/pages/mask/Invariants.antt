-- The bits of the blocks from i on, the lowest that of block i.
use Rattle.std.proofs.Common.{◌≡◌, ◌-◌}
use Rattle.std.specs.Simd.Lanes.{mask_l}
use Rattle.page_lanes.proofs.PageLemmas.{flags}
use Rattle.page_lanes.proofs.pages.mask.Given as goal

abbrev pub invariant-loop-i : goal.invariant-loop-i
invariant-loop-i l = l.mask ≡ mask_l (flags l.a l.b l.i (64 - l.i))
