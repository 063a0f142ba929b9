-- The bytes so far are counted.
use Rattle.std.proofs.Common.{◌≡◌, ◌≤◌, take}
use Rattle.page_lanes.specs.Kernels.{differing}
use Rattle.page_lanes.proofs.bytes.count_bytes.Given as goal

abbrev pub invariant-loop-i : goal.invariant-loop-i
invariant-loop-i l = record { count : l.count ≡ differing (take l.i l.a) (take l.i l.b); few : l.count ≤ l.i }
