-- The pc of a trap's handler.
use Rattle.std.proofs.Common.{◌≡◌, ℕ, ◌*◌, ◌^◌, ◌<◌, ◌==◌, bit_and, refl, ap, ◌∙◌, arith, zero, suc}
use Rattle.std.specs.Prelude.{not}
use Rattle.std.specs.Int.{bit_at}
use Rattle.std.proofs.Math.Nat.{add-mod-mod}
use Rattle.std.proofs.lemmas.Nat.Bits.{and_pow, and_high_mask, bit_at-lt}
use Rattle.mtraps.specs.Traps.{trap_base, is_vectored}

pub base_kept : (v : ℕ) → v < 2 ^ 64 → bit_and v 0xfffffffffffffffc ≡ trap_base v
base_kept v fits = and_high_mask 64 2 (omega arith) v fits

bit_cases : (b : ℕ) → b < 2 → not (b * 1 == 0) ≡ (b == 1)
bit_cases zero small = refl
bit_cases (suc zero) small = refl
bit_cases (suc (suc b)) small = absurd (omega arith)

pub vectored_mask : (v : ℕ) → not (bit_and v 1 == 0) ≡ is_vectored v
vectored_mask v = ap (λ m. not (m == 0)) (and_pow v 0) ∙ bit_cases (bit_at v 0) (bit_at-lt v 0)

pub ruleset handlers = (base_kept, vectored_mask, add-mod-mod)
