-- The bytes so far are changed, and the others aren't.
use Rattle.std.proofs.Common.{◌≡◌}
use Rattle.page_lanes.proofs.PartLemmas.{xored_to}
use Rattle.page_lanes.proofs.bytes.xor_bytes.Given as goal

abbrev pub invariant-loop-i : goal.invariant-loop-i
invariant-loop-i l = l.into ≡ xored_to l.i l.fn.into l.from
