-- The bits so far are set, and the others are as they were.
use Rattle.std.proofs.Common.{◌≡◌, ℕ, ◌&&◌, if◌then◌else◌, length, nat_le, nat_lt}
use Rattle.block_device.specs.Dirty.{bit_of}
use Rattle.block_device.proofs.dirty.set_bits.Given as goal

abbrev pub invariant-loop-sector : goal.invariant-loop-sector
invariant-loop-sector l = record {
  bits : (i : ℕ) → bit_of l.bits.items i ≡ (if nat_le l.first i && nat_lt i l.sector then 1 else bit_of l.initial.bits.items i);
  words : length l.bits.items ≡ length l.initial.bits.items;
}
