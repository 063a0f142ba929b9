use Rattle.std.proofs.Common.{◌*◌, ◌<◌, List, ℕ, sym, subst, length, get_or}
use Rattle.block_device.proofs.SetLemmas.{listed_within}
use Rattle.block_device.proofs.dirty.SectorSet.clear.Goals as goal

pub clear_bits-requires-clause-within : goal.clear_bits-requires-clause-within
clear_bits-requires-clause-within c =
    let n : ℕ = 64 * length c.self.inside.bits.items in
    subst (λ (is : List ℕ). (k d : ℕ) → k < length is → get_or is k d < n) (sym c.as_slice.ensures.value)
    (listed_within c.self.inside.bits.items c.self.inside.list.items c.self.inside.sectors c.self.invariant.0)
