-- The blocks that a mask names, found one set bit after another.
use Rattle.std.proofs.Common.{◌≡◌, ℕ, zero, suc, ◌+◌, ◌-◌, ◌/◌, ◌%◌, ◌^◌, ◌<◌, ◌≤◌, ◌==◌, [], ◌∷◌, ◌++◌, w64, cond, sym, ap, ◌∙◌}
use Rattle.std.proofs.{Common.{arith, inl, inr, shr-shr}, lemmas.{Bool.{ne_eqb, cases_order}, List.append-nil, Nat.Bits.bit_at-zero}}
use Rattle.std.proofs.lemmas.Nat.Bits.{bit_at_above, bit_at-trailing_zeros}
use Rattle.std.specs.Int.{bit_at, trailing_zeros}
use Rattle.epoch_snapshot.{specs.Blocks.{named_below, set_blocks}, specs.laws.Pages.filter_last}

shifted_bit : (m s i : ℕ) → bit_at (m / 2 ^ s) i ≡ bit_at m (s + i)
shifted_bit m s i = ap (λ x. x % 2) (shr-shr m s i)

none_between : (m s k : ℕ) → ((i : ℕ) → i < k → bit_at m (s + i) ≡ 0) → named_below m (s + k) ≡ named_below m s
none_between m s zero none = let e : s + 0 ≡ s = omega arith in ap (named_below m) e
none_between m s (suc k) none =
    let e : s + suc k ≡ (s + k) + 1 = omega arith in
    let clear : bit_at m (s + k) ≡ 0 = none k (omega arith) in
    ap (named_below m) e
    ∙ filter_last (λ i. bit_at m i == 1) (s + k)
    ∙ ap (λ b. named_below m (s + k) ++ cond b ((s + k) ∷ []) []) (ne_eqb (bit_at m (s + k)) 1 (λ h. absurd (omega (arith, h, clear))))
    ∙ append-nil (named_below m (s + k))
    ∙ none_between m s k (λ i below. none i (omega arith))

inside : (m n : ℕ) → m < 2 ^ 64 → bit_at m n ≡ 1 → n < 64
inside m n fits set =
    elim (cases_order n 64) [
      | inl e ↦ absurd (omega (arith, set, bit_at_above m 64 n fits (omega (arith, e))))
      | inr (inl below) ↦ below
      | inr (inr above) ↦ absurd (omega (arith, set, bit_at_above m 64 n fits (omega (arith, above))))
    ]

-- the next block that a mask names from block s on, found by the bits that are left
pub next_set : (m s rest : ℕ) → m < 2 ^ 64 → rest ≡ m / 2 ^ s → 0 < rest → rest < 2 ^ 64 →
    (s + trailing_zeros w64 rest < 64) × (bit_at m (s + trailing_zeros w64 rest) ≡ 1)
    × (named_below m (s + trailing_zeros w64 rest) ≡ named_below m s)
next_set m s rest fits e some small =
    let t = trailing_zeros w64 rest in
    let lowest = bit_at-trailing_zeros w64 rest some small in
    let same : (i : ℕ) → bit_at m (s + i) ≡ bit_at rest i = λ i. sym (shifted_bit m s i) ∙ ap (λ n. bit_at n i) (sym e) in
    let set : bit_at m (s + t) ≡ 1 = same t ∙ lowest.1 in
    (inside m (s + t) fits set, set, none_between m s t (λ i below. same i ∙ lowest.2 i below))

-- where no bit is left, all blocks that the mask names are below
pub all_below : (m s : ℕ) → s ≤ 64 → m / 2 ^ s ≡ 0 → set_blocks m ≡ named_below m s
unfolding set_blocks
all_below m s most none =
    let e : 64 ≡ s + (64 - s) = omega arith in
    ap (named_below m) e
    ∙ none_between m s (64 - s) (λ i below. sym (shifted_bit m s i) ∙ ap (λ n. bit_at n i) none ∙ bit_at-zero i)
