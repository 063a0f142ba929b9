-- Only sectors that are still to come may have a bit that is 1.
use Rattle.std.proofs.Common.{◌≡◌, ℕ, false, drop, length}
use Rattle.block_device.specs.Dirty.{bit_of, is_in}
use Rattle.block_device.proofs.dirty.clear_bits.Given as goal

abbrev pub invariant-loop-sector : goal.invariant-loop-sector
invariant-loop-sector l = record {
  bits : (i : ℕ) → is_in i (drop l.sector-index l.sectors) ≡ false → bit_of l.bits.items i ≡ 0;
  words : length l.bits.items ≡ length l.initial.bits.items;
}
