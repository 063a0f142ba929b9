-- The bit that msip keeps.
use Rattle.std.proofs.Common.{◌≡◌, ℕ, ◌%◌, ◌==◌, ◌<◌, if◌then◌else◌, zero, suc, refl, arith}

bit_of : (b : ℕ) → b < 2 → (if b == 1 then 1 else 0) ≡ b
bit_of zero small = refl
bit_of (suc zero) small = refl
bit_of (suc (suc b)) small = absurd (omega arith)

pub low_bit : (v : ℕ) → (if v % 2 == 1 then 1 else 0) ≡ v % 2
low_bit v = bit_of (v % 2) (omega arith)
