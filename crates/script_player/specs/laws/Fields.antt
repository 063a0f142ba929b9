-- What stands after a front, and after the number that stands first, is found again; and what is found stood there.
use Rattle.std.proofs.Common.{◌≡◌, ◌<◌, ◌^◌, ℕ, Bool, true, false, cond, List, [], ◌∷◌, ◌++◌, length, Option, Some, None, refl, ap, ◌∙◌}
use Rattle.std.proofs.Common.{subst, ◌==◌}
use Rattle.std.proofs.{Common.{◌&&◌, nat_lt, arith}, lemmas.Bool.and_parts}
use Rattle.std.specs.{Option.{option_map, option_and_then}, Str.{all_ascii_digits, Parse.digits_value}, Char.is_ascii_digit}
use Rattle.script_player.specs.Fields.{text_after, number_written, number_in, operand_of, operand_at, parted, parted_at}
use Rattle.script_player.specs.laws.Options.{some_same, pair_parts, and_then_some, map_some}

-- a front is found again
pub text_after-append : (front rest : List ℕ) → text_after front (front ++ rest) ≡ Some rest
text_after-append [] rest = refl
text_after-append (f ∷ front) rest = let same : (f == f) ≡ true = grind arith in rw same (text_after-append front rest)

-- what has something after a front begins with it
pub text_after-some : (front text rest : List ℕ) → text_after front text ≡ Some rest → text ≡ front ++ rest
text_after-some [] text rest h = cc
text_after-some (f ∷ front) [] rest h = cc
text_after-some (f ∷ front) (c ∷ text) rest h = by-test (f == c) refl (text_after-some front text rest) h
  where
    by-test : (b : Bool) → (f == c) ≡ b → (text_after front text ≡ Some rest → text ≡ front ++ rest)
        → cond b (text_after front text) None ≡ Some rest → (c ∷ text) ≡ (f ∷ front) ++ rest
    by-test true e again h = let same : f ≡ c = grind arith in let tail : text ≡ front ++ rest = again h in cc
    by-test false e again h = cc

-- ---- a number, and the text around the first space

-- the test of `number_written`
abbrev pub writes : List ℕ → Bool
writes text = nat_lt 0 (length text) && all_ascii_digits text && nat_lt (digits_value 10 text) (2 ^ 64)

abbrev pub Writes : List ℕ → Type 0
Writes text = (all_ascii_digits text ≡ true) × (0 < length text) × (digits_value 10 text < 2 ^ 64)

pub writes_to : (text : List ℕ) → writes text ≡ true → Writes text
writes_to text h =
    let last = and_parts (nat_lt 0 (length text) && all_ascii_digits text) (nat_lt (digits_value 10 text) (2 ^ 64)) h in
    let front = and_parts (nat_lt 0 (length text)) (all_ascii_digits text) last.0 in
    (front.1, grind (arith, front.0), grind (arith, last.1))

abbrev Parts : Type 0
Parts = List ℕ × List ℕ

-- a text that is parted at a byte is its parts with that byte between them
pub parted_at-shape : (byte : ℕ) (text : List ℕ) (parts : Parts) → parted_at byte text ≡ Some parts → text ≡ parts.0 ++ byte ∷ parts.1
parted_at-shape byte [] parts h = cc
parted_at-shape byte (c ∷ text) parts h = by-test (c == byte) refl (parted_at-shape byte text) h
  where
    by-test : (b : Bool) → (c == byte) ≡ b → ((p : Parts) → parted_at byte text ≡ Some p → text ≡ p.0 ++ byte ∷ p.1)
        → cond {A = Option Parts} b (Some ([], text)) (option_map (λ p. (c ∷ p.0, p.1)) (parted_at byte text)) ≡ Some parts
        → (c ∷ text) ≡ parts.0 ++ byte ∷ parts.1
    by-test true e again h =
        let same : c ≡ byte = grind arith in
        subst (λ (p : Parts). (c ∷ text) ≡ p.0 ++ byte ∷ p.1) (some_same h) (ap (λ d. d ∷ text) same)
    by-test false e again h =
        let more = map_some {B = Parts} (λ p. (c ∷ p.0, p.1)) (parted_at byte text) parts h in
        subst (λ (p : Parts). (c ∷ text) ≡ p.0 ++ byte ∷ p.1) more.2 (ap (λ t. c ∷ t) (again more.0 more.1))

pub parted-shape : (text : List ℕ) (parts : Parts) → parted text ≡ Some parts → text ≡ parts.0 ++ 32 ∷ parts.1
parted-shape text parts h = parted_at-shape 32 text parts h

-- digits are parted from what stands after a byte that is none
pub parted_at-digits : (byte : ℕ) → is_ascii_digit byte ≡ false → (digits rest : List ℕ) → all_ascii_digits digits ≡ true
    → parted_at byte (digits ++ byte ∷ rest) ≡ Some (digits, rest)
parted_at-digits byte other [] rest h = let same : (byte == byte) ≡ true = grind arith in rw same refl
parted_at-digits byte other (d ∷ digits) rest h =
    let both = and_parts (is_ascii_digit d) (all_ascii_digits digits) h in
    let apart : (d == byte) ≡ false = by-test (d == byte) refl both.0 in
    rw (apart, parted_at-digits byte other digits rest both.1) refl
  where
    by-test : (b : Bool) → (d == byte) ≡ b → is_ascii_digit d ≡ true → (d == byte) ≡ false
    by-test false e digit = e
    by-test true e digit = let same : d ≡ byte = grind arith in cc (ap is_ascii_digit same, digit, other)

pub parted-digits : (digits rest : List ℕ) → all_ascii_digits digits ≡ true → parted (digits ++ 32 ∷ rest) ≡ Some (digits, rest)
parted-digits digits rest h = parted_at-digits 32 refl digits rest h

digits_written : (text : List ℕ) (n : ℕ) (b : Bool) → writes text ≡ b → cond b (Some (digits_value 10 text)) None ≡ Some n
    → all_ascii_digits text ≡ true
digits_written text n true e h = (writes_to text e).0
digits_written text n false e h = cc

-- a number at the front, after it such a byte, is found again
pub operand_at-spelled : (byte : ℕ) → is_ascii_digit byte ≡ false → (digits rest : List ℕ) (n : ℕ) → number_written digits ≡ Some n
    → operand_at byte (digits ++ byte ∷ rest) ≡ Some (n, rest)
operand_at-spelled byte other digits rest n h =
    ap (option_and_then number_in) (parted_at-digits byte other digits rest (digits_written digits n (writes digits) refl h))
    ∙ ap (option_map {U = ℕ × List ℕ} (λ m. (m, rest))) h

pub operand_of-spelled : (digits rest : List ℕ) (n : ℕ) → number_written digits ≡ Some n → operand_of (digits ++ 32 ∷ rest) ≡ Some (n, rest)
operand_of-spelled digits rest n h = operand_at-spelled 32 refl digits rest n h

-- what is read at the front is a number, and such a byte stands after it
pub operand_at-read : (byte : ℕ) (text : List ℕ) (n : ℕ) (rest : List ℕ) → operand_at byte text ≡ Some (n, rest)
    → (digits : List ℕ) × (text ≡ digits ++ byte ∷ rest) × (number_written digits ≡ Some n)
operand_at-read byte text n rest h =
    let parts = and_then_some number_in (parted_at byte text) (n, rest) h in
    let number = map_some {B = ℕ × List ℕ} (λ m. (m, parts.0.1)) (number_written parts.0.0) (n, rest) parts.2 in
    let both = pair_parts number.2 in (
      parts.0.0,
      parted_at-shape byte text parts.0 parts.1 ∙ ap (λ t. parts.0.0 ++ byte ∷ t) both.1,
      number.1 ∙ ap Some both.0,
    )

pub operand_of-read : (text : List ℕ) (n : ℕ) (rest : List ℕ) → operand_of text ≡ Some (n, rest)
    → (digits : List ℕ) × (text ≡ digits ++ 32 ∷ rest) × (number_written digits ≡ Some n)
operand_of-read text n rest h = operand_at-read 32 text n rest h
