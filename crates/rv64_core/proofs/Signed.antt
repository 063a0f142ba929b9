-- Products of numbers of 64 bits, of which one or both are signed, fit 128.
use Rattle.std.proofs.Common.{
  ◌≡◌,
  ◌≤◌,
  ◌<◌,
  ◌*◌,
  ◌^◌,
  ℕ,
  ℤ,
  ◌*ℤ◌,
  FitsSigned,
  unsigned_abs,
  to_z,
  of_z,
  subst,
  sym,
  ap,
  ◌∙◌,
  arith,
  mul-le-mul_right,
}
use Rattle.std.specs.Int.{w128}
use Rattle.std.proofs.lemmas.Int.{to_z-of_z, unsigned_abs-mul, fits_signed_from_abs}

pub product_below : (x y : ℤ) → unsigned_abs x ≤ 2 ^ 63 → unsigned_abs y < 2 ^ 64 → unsigned_abs (x *ℤ y) < 2 ^ 127
product_below x y p q =
    let Below : ℕ → Type 0 = λ n. n < 2 ^ 127 in
    let most : unsigned_abs x * unsigned_abs y ≤ 2 ^ 63 * unsigned_abs y = mul-le-mul_right (unsigned_abs y) p in
    subst Below (sym (unsigned_abs-mul x y)) (omega (arith, most, q))

pub product_fits : (x y : ℤ) → unsigned_abs x ≤ 2 ^ 63 → unsigned_abs y < 2 ^ 64 → FitsSigned w128 (x *ℤ y)
product_fits x y p q = fits_signed_from_abs w128 (x *ℤ y) (product_below x y p q)

pub product_is : (x y : ℤ) → FitsSigned w128 x → FitsSigned w128 y → unsigned_abs x ≤ 2 ^ 63 → unsigned_abs y < 2 ^ 64
    → to_z w128 (of_z w128 (to_z w128 (of_z w128 x) *ℤ to_z w128 (of_z w128 y))) ≡ x *ℤ y
product_is x y fx fy p q =
    ap (λ z. to_z w128 (of_z w128 (z *ℤ to_z w128 (of_z w128 y)))) (to_z-of_z w128 x fx)
    ∙ ap (λ z. to_z w128 (of_z w128 (x *ℤ z))) (to_z-of_z w128 y fy)
    ∙ to_z-of_z w128 (x *ℤ y) (product_fits x y p q)
