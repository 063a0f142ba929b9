-- To write what was read gives the word back, format by format.
use Rattle.std.proofs.Common.{◌≡◌, ℕ, ◌<◌, ◌+◌, ◌*◌, ◌/◌, ◌%◌, ◌^◌, List, [], ◌∷◌, bit_and, bit_or, subst, inl, inr, ap, ◌∙◌, arith, Some}
use Rattle.std.proofs.lemmas.Nat.{and_mask, or_shifted}
use Rattle.std.proofs.lemmas.Nat.Bits.{and_high}
use Rattle.std.proofs.lemmas.Bool.{eqb-true, cases_Bool}
use Rattle.rv64_core.specs.declared.instruction.Instr.{Instr}
use Rattle.rv64_core.specs.Fields.{
  rd,
  rs1,
  rs2,
  csr_number,
  shift_amount,
  word_shift_amount,
  i_immediate,
  s_immediate,
  b_immediate,
  u_immediate,
  j_immediate,
}
use Rattle.rv64_core.specs.Rows.{Row, fits, first_fit}
use Rattle.rv64_core.specs.Encoding.{encoded, u_word, j_word, i_word, s_word, b_word, r_word, shift_word, word_shift_word}
use Rattle.rv64_core.proofs.Fitting.{and_or}

-- the bits of opcode and funct3
funct3_mask : (w : ℕ) → bit_and w 0x707f ≡ w / 2 ^ 12 % 2 ^ 3 * 2 ^ 12 + w % 2 ^ 7
funct3_mask w =
    and_or w 0x7000 0x7f
    ∙ ap (λ x. bit_or x (bit_and w 0x7f)) (and_high w 3 12)
    ∙ ap (bit_or (w / 2 ^ 12 % 2 ^ 3 * 2 ^ 12)) (and_mask w 7)
    ∙ or_shifted (w / 2 ^ 12 % 2 ^ 3) 12 (w % 2 ^ 7) (omega arith)

-- and those of funct7, or the top six bits
funct7_mask : (w : ℕ) → bit_and w 0xfe00707f ≡ w / 2 ^ 25 % 2 ^ 7 * 2 ^ 25 + (w / 2 ^ 12 % 2 ^ 3 * 2 ^ 12 + w % 2 ^ 7)
funct7_mask w =
    and_or w 0xfe000000 0x707f
    ∙ ap (λ x. bit_or x (bit_and w 0x707f)) (and_high w 7 25)
    ∙ ap (bit_or (w / 2 ^ 25 % 2 ^ 7 * 2 ^ 25)) (funct3_mask w)
    ∙ or_shifted (w / 2 ^ 25 % 2 ^ 7) 25 (w / 2 ^ 12 % 2 ^ 3 * 2 ^ 12 + w % 2 ^ 7) (omega arith)

funct6_mask : (w : ℕ) → bit_and w 0xfc00707f ≡ w / 2 ^ 26 % 2 ^ 6 * 2 ^ 26 + (w / 2 ^ 12 % 2 ^ 3 * 2 ^ 12 + w % 2 ^ 7)
funct6_mask w =
    and_or w 0xfc000000 0x707f
    ∙ ap (λ x. bit_or x (bit_and w 0x707f)) (and_high w 6 26)
    ∙ ap (bit_or (w / 2 ^ 26 % 2 ^ 6 * 2 ^ 26)) (funct3_mask w)
    ∙ or_shifted (w / 2 ^ 26 % 2 ^ 6) 26 (w / 2 ^ 12 % 2 ^ 3 * 2 ^ 12 + w % 2 ^ 7) (omega arith)

pub u_back : (fixed w : ℕ) → w < 2 ^ 32 → bit_and w 0x7f ≡ fixed → u_word fixed (rd w) (u_immediate w) ≡ w
u_back fixed w h e = grind (arith, and_mask w 7)

pub j_back : (fixed w : ℕ) → w < 2 ^ 32 → bit_and w 0x7f ≡ fixed → j_word fixed (rd w) (j_immediate w) ≡ w
j_back fixed w h e = grind (arith, and_mask w 7)

pub i_back : (fixed w : ℕ) → w < 2 ^ 32 → bit_and w 0x707f ≡ fixed → i_word fixed (rd w) (rs1 w) (i_immediate w) ≡ w
i_back fixed w h e = grind (arith, funct3_mask w)

pub s_back : (fixed w : ℕ) → w < 2 ^ 32 → bit_and w 0x707f ≡ fixed → s_word fixed (rs1 w) (rs2 w) (s_immediate w) ≡ w
s_back fixed w h e = grind (arith, funct3_mask w)

pub b_back : (fixed w : ℕ) → w < 2 ^ 32 → bit_and w 0x707f ≡ fixed → b_word fixed (rs1 w) (rs2 w) (b_immediate w) ≡ w
b_back fixed w h e = grind (arith, funct3_mask w)

pub field_back : (fixed w : ℕ) → w < 2 ^ 32 → bit_and w 0x707f ≡ fixed → i_word fixed (rd w) (rs1 w) (csr_number w) ≡ w
field_back fixed w h e = grind (arith, funct3_mask w)

pub number_back : (fixed w : ℕ) → w < 2 ^ 32 → bit_and w 0x707f ≡ fixed → i_word fixed (rd w) (rs1 w % 2 ^ 5) (csr_number w) ≡ w
number_back fixed w h e = grind (arith, funct3_mask w)

pub r_back : (fixed w : ℕ) → w < 2 ^ 32 → bit_and w 0xfe00707f ≡ fixed → r_word fixed (rd w) (rs1 w) (rs2 w) ≡ w
r_back fixed w h e = grind (arith, funct7_mask w)

pub shift_back : (fixed w : ℕ) → w < 2 ^ 32 → bit_and w 0xfc00707f ≡ fixed → shift_word fixed (rd w) (rs1 w) (shift_amount w) ≡ w
shift_back fixed w h e = grind (arith, funct6_mask w)

pub word_shift_back : (fixed w : ℕ) → w < 2 ^ 32 → bit_and w 0xfe00707f ≡ fixed →
    word_shift_word fixed (rd w) (rs1 w) (word_shift_amount w) ≡ w
word_shift_back fixed w h e = grind (arith, funct7_mask w)

pub alone_back : (fixed w : ℕ) → w < 2 ^ 32 → bit_and w 0xffffffff ≡ fixed → fixed ≡ w
alone_back fixed w h e = let m : bit_and w 0xffffffff ≡ w % 2 ^ 32 = and_mask w 32 in omega (arith, m)

-- a row's words are written as they were read
pub record Back (r : Row) : Type 0 where
  pub back : (w : ℕ) → w < 2 ^ 32 → bit_and w r.mask ≡ r.bits → encoded (r.reads w) ≡ w

unfoldable pub AllBack : List Row → Type 0
AllBack [] = Unit {0}
AllBack (r ∷ rs) = Back r × AllBack rs

pub back_of : (rows : List Row) (w : ℕ) (i : Instr) → AllBack rows → w < 2 ^ 32 → first_fit rows w ≡ Some i → encoded i ≡ w
unfolding AllBack
back_of [] w i a h e = absurd (cc)
back_of (r ∷ rs) w i a h e =
    elim (cases_Bool (fits r w)) [
      | inl f ↦ (let g : Some (r.reads w) ≡ Some i = rw f at e in
          let k : r.reads w ≡ i = (cc) in
          subst (λ x. encoded x ≡ w) k (a.0.back w h (eqb-true _ _ f)))
      | inr f ↦ (let g : first_fit rs w ≡ Some i = rw f at e in back_of rs w i a.1 h g)
    ]
