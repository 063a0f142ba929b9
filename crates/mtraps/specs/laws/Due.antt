-- No interrupt is due where mie and mip share no bit.
use Rattle.std.proofs.Common.{◌≡◌, ℕ, ◌*◌, ◌^◌, ◌<◌, ◌==◌, ◌&&◌, Bool, false, cond, bit_and, min, refl, ap, sym, ◌∙◌, arith, zero, suc}
use Rattle.std.proofs.Common.{Option, Some, None}
use Rattle.std.specs.Option.{option_map}
use Rattle.std.specs.Int.{bit_at}
use Rattle.std.proofs.lemmas.Nat.{pow_pos}
use Rattle.std.proofs.lemmas.Nat.Bits.{and_pow, bit_at_and, bit_at-lt}
use Rattle.mtraps.specs.Interrupts.{is_due, first_due, interrupt_cause}

-- two bits
both_clear : (b c p : ℕ) → b < 2 → c < 2 → 0 < p → min b c * p ≡ 0 → (b == 1 && c == 1) ≡ false
both_clear zero c p _ _ _ _ = refl
both_clear (suc zero) zero p _ _ _ _ = refl
both_clear (suc zero) (suc zero) p _ _ pos e = absurd (omega arith)
both_clear (suc zero) (suc (suc c)) p _ small _ _ = absurd (omega arith)
both_clear (suc (suc b)) c p small _ _ _ = absurd (omega arith)

-- a bit of `mie & mip` by its mask
pub masked : (mie mip k : ℕ) → bit_and (bit_and mie mip) (2 ^ k) ≡ min (bit_at mie k) (bit_at mip k) * 2 ^ k
masked mie mip k = and_pow (bit_and mie mip) k ∙ ap (λ b. b * 2 ^ k) (bit_at_and mie mip k)

pub clear_bit : (mie mip k : ℕ) → bit_and (bit_and mie mip) (2 ^ k) ≡ 0 → is_due mie mip k ≡ false
clear_bit mie mip k e =
    both_clear (bit_at mie k) (bit_at mip k) (2 ^ k) (bit_at-lt mie k) (bit_at-lt mip k) (pow_pos k) (sym (masked mie mip k) ∙ e)

-- the first that is due, by what is due
abbrev pub choice : Bool → Bool → Bool → Option ℕ
choice external software timer =
    option_map interrupt_cause (cond external (Some 11) (cond software (Some 3) (cond timer (Some 7) None)))

-- none is due where nothing is shared
pub due_none : (mie mip : ℕ) → bit_and mie mip ≡ 0 → first_due mie mip ≡ None
due_none mie mip e =
    let no : (k : ℕ) → is_due mie mip k ≡ false = λ (k : ℕ). clear_bit mie mip k (ap (λ n. bit_and n (2 ^ k)) e) in
    ap (λ b. choice b (is_due mie mip 3) (is_due mie mip 7)) (no 11)
    ∙ ap (λ b. choice false b (is_due mie mip 7)) (no 3)
    ∙ ap (λ b. choice false false b) (no 7)
