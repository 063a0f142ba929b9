-- What mepc keeps of a value: all but its two low bits.
use Rattle.std.proofs.Common.{◌≡◌, ℕ, bit_and}
use Rattle.std.specs.Int.Bits.{or_zero_r}
use Rattle.mtraps.specs.CsrTable.{csr_table, csr, legal_value}

pub mepc_kept : (v : ℕ) → legal_value 0x341 v ≡ bit_and v 0xfffffffffffffffc
unfolding legal_value csr csr_table
mepc_kept v = or_zero_r _
