-- The blocks so far are equal.
use Rattle.std.proofs.Common.{◌≡◌, ◌*◌, take}
use Rattle.page_lanes.proofs.slices.equal.Given as goal

abbrev pub invariant-loop-i : goal.invariant-loop-i
invariant-loop-i l = take (64 * l.i) l.a ≡ take (64 * l.i) l.b
