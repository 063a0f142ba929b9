-- What masking a value for a CSR leaves, and what masking it again does.
use Rattle.std.proofs.Common.{
  ◌≡◌,
  ℕ,
  ◌^◌,
  ◌<◌,
  ◌%◌,
  ◌*◌,
  ◌/◌,
  ◌==◌,
  Bool,
  true,
  false,
  bit_and,
  bit_or,
  refl,
  ap,
  sym,
  ◌∙◌,
  arith,
  zero,
  suc,
}
use Rattle.std.specs.Prelude.{not}
use Rattle.std.proofs.Math.Nat.{mod-eq_of_lt}
use Rattle.mtraps.specs.Status.{mie_bit, mpie_bit, status}
use Rattle.std.specs.Int.{bit_at}
use Rattle.std.specs.Int.Bits.{or_zero_r}
use Rattle.std.proofs.lemmas.Nat.{and_mask, and_assoc, and_or_apart}
use Rattle.std.proofs.lemmas.Nat.Bits.{and_pow, bit_at-lt, and_high_mask}
use Rattle.mtraps.specs.CsrTable.{csr_table, csr, legal_value}
use Rattle.mtraps.specs.laws.Masks.{mepc_kept}

-- all 64 bits are kept
pub and_all : (v : ℕ) → v < 2 ^ 64 → bit_or (bit_and v 0xffffffffffffffff) 0 ≡ v
and_all v fits = or_zero_r _ ∙ and_mask v 64 ∙ mod-eq_of_lt fits

-- a mask applied twice
and_twice : (v m : ℕ) → bit_and m m ≡ m → bit_and (bit_and v m) m ≡ bit_and v m
and_twice v m same = and_assoc m v m ∙ ap (λ n. bit_and v n) same

pub legal_mstatus : (v : ℕ) → legal_value 0x300 (bit_or (bit_and v 0x88) 0x1800) ≡ bit_or (bit_and v 0x88) 0x1800
unfolding legal_value csr csr_table
legal_mstatus v = ap (λ n. bit_or n 0x1800) (and_or_apart 0x88 (bit_and v 0x88) 0x1800 refl ∙ and_twice v 0x88 refl)

pub legal_mie : (v : ℕ) → legal_value 0x304 (bit_and v 0x888) ≡ bit_and v 0x888
unfolding legal_value csr csr_table
legal_mie v = or_zero_r _ ∙ and_twice v 0x888 refl

pub legal_mtvec : (v : ℕ) → legal_value 0x305 (bit_and v 0xfffffffffffffffd) ≡ bit_and v 0xfffffffffffffffd
unfolding legal_value csr csr_table
legal_mtvec v = or_zero_r _ ∙ and_twice v 0xfffffffffffffffd refl

pub legal_mepc : (v : ℕ) → legal_value 0x341 (bit_and v 0xfffffffffffffffc) ≡ bit_and v 0xfffffffffffffffc
unfolding legal_value csr csr_table
legal_mepc v = or_zero_r _ ∙ and_twice v 0xfffffffffffffffc refl

-- a bit is tested by its mask
mie_cases : (b : ℕ) → b < 2 → not (b * 8 == 0) ≡ (b == 1)
mie_cases zero small = refl
mie_cases (suc zero) small = refl
mie_cases (suc (suc b)) small = absurd (omega arith)

mpie_cases : (b : ℕ) → b < 2 → not (b * 128 == 0) ≡ (b == 1)
mpie_cases zero small = refl
mpie_cases (suc zero) small = refl
mpie_cases (suc (suc b)) small = absurd (omega arith)

pub mie_mask : (mstatus : ℕ) → not (bit_and mstatus 8 == 0) ≡ mie_bit mstatus
mie_mask mstatus = ap (λ m. not (m == 0)) (and_pow mstatus 3) ∙ mie_cases (bit_at mstatus 3) (bit_at-lt mstatus 3)

pub mpie_mask : (mstatus : ℕ) → not (bit_and mstatus 128 == 0) ≡ mpie_bit mstatus
mpie_mask mstatus = ap (λ m. not (m == 0)) (and_pow mstatus 7) ∙ mpie_cases (bit_at mstatus 7) (bit_at-lt mstatus 7)

pub ruleset masks = (and_all, legal_mstatus, legal_mie, legal_mtvec, legal_mepc, or_zero_r)

-- mstatus made of two enables is one that a write leaves
pub legal_status : (a b : Bool) → legal_value 0x300 (status a b) ≡ status a b
unfolding legal_value csr csr_table
legal_status true true = refl
legal_status true false = refl
legal_status false true = refl
legal_status false false = refl

-- so it is a multiple of 4
pub mepc_aligned : (v : ℕ) → v < 2 ^ 64 → legal_value 0x341 v ≡ v → v % 4 ≡ 0
mepc_aligned v fits legal =
    let e : v ≡ v / 4 * 4 = sym legal ∙ mepc_kept v ∙ and_high_mask 64 2 (omega arith) v fits in omega arith

pub ruleset entries = (legal_mepc, legal_status, mepc_kept, mepc_aligned)
