-- The bytes of the blocks so far are counted.
use Rattle.std.proofs.Common.{◌≡◌, ◌≤◌, ◌*◌, take}
use Rattle.page_lanes.specs.Kernels.{differing}
use Rattle.page_lanes.proofs.slices.count_differing.Given as goal

abbrev pub invariant-loop-i : goal.invariant-loop-i
invariant-loop-i l = record { count : l.count ≡ differing (take (64 * l.i) l.a) (take (64 * l.i) l.b); few : l.count ≤ 64 * l.i }
