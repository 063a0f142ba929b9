-- The bits so far are 1.
use Rattle.std.proofs.Common.{◌≡◌, ℕ, ◌≤◌, ◌<◌}
use Rattle.block_device.specs.Dirty.{bit_of}
use Rattle.block_device.proofs.dirty.has_all.Given as goal

abbrev pub invariant-loop-sector : goal.invariant-loop-sector
invariant-loop-sector l = (i : ℕ) → l.first ≤ i → i < l.sector → bit_of l.bits.items i ≡ 1
