-- What stands after a front, and the number that digits write.
use Rattle.std.proofs.Common.{◌≡◌, ◌≢◌, ◌<◌, ◌≤◌, ◌^◌, ℕ, zero, suc, Bool, true, false, List, [], ◌∷◌, ◌++◌, length, Option, Some}
use Rattle.std.proofs.Common.{None, MatchOption, Bor, take, drop, add-one, ◌+◌, ◌*◌, ◌-◌, refl, sym, ap, arith, ◌==◌}
use Rattle.std.proofs.Common.{nat_lt, get_or, ◌∙◌}
use Rattle.std.proofs.lemmas.List.{take_rest}
use Rattle.std.proofs.lemmas.List.Quantifiers.{position-Some}
use Rattle.std.proofs.lemmas.{List.Sums.fails_before_first, Grind.common_steps}
use Rattle.std.proofs.lemmas.Str.Parse.{IsNumeralModel, numerals_by_value, tells_all_ascii_digits, digits_value-take-le}
use Rattle.std.proofs.lemmas.Int.Digits.{digits_value_more}
use Rattle.std.proofs.lemmas.Bool.{and_parts, and_from, false_from_ne_true}
use Rattle.std.specs.List.{position, position_or_len}
use Rattle.std.specs.Str.{all_ascii_digits}
use Rattle.std.specs.{Str.Parse.digits_value, Char.{is_ascii_digit, digit_value}}
use Rattle.script_player.specs.Fields.{text_after, number_written, parted_at}
use Rattle.script_player.specs.laws.Fields.{text_after-append, text_after-some, writes, Writes, writes_to}

none_after : (front text : List ℕ) → ((rest : List ℕ) → text ≢ front ++ rest) → (o : Option (List ℕ)) → text_after front text ≡ o → o ≡ None
none_after front text apart None e = refl
none_after front text apart (Some rest) e = absurd (apart rest (text_after-some front text rest e))

-- what `strip_prefix` answers, by what stands after
pub after_cases : (front text : List ℕ) (found : Option (Bor (List ℕ)))
    → MatchOption found ((rest : List ℕ) → text ≢ front ++ rest) (λ rest. text ≡ front ++ rest.now)
    → MatchOption found (text_after front text ≡ None) (λ rest. text_after front text ≡ Some rest.now)
after_cases front text None h = none_after front text h (text_after front text) refl
after_cases front text (Some rest) h = ap (text_after front) h ∙ text_after-append front rest.now

-- ---- the number that digits write

pub own : IsNumeralModel (λ ds. all_ascii_digits ds ≡ true) (digits_value 10)
own = numerals_by_value _ tells_all_ascii_digits

no_number : (text : List ℕ) → ¬ (Writes text) → number_written text ≡ None
no_number text apart = rw (false_from_ne_true (writes text) (λ h. apart (writes_to text h))) refl

one_more : (text : List ℕ) (i : ℕ) → i < length text → all_ascii_digits (take i text) ≡ true → is_ascii_digit (get_or text i 0) ≡ true
    → all_ascii_digits (take (suc i) text) ≡ true
one_more [] i low all one = absurd (omega (arith, low))
one_more (c ∷ text) zero low all one = and_from _ _ one refl
one_more (c ∷ text) (suc i) low all one =
    let both = and_parts (is_ascii_digit c) (all_ascii_digits (take i text)) all in
    and_from _ _ both.0 (one_more text i (omega (arith, low)) both.1 one)

-- one digit more
pub digits-more : (text : List ℕ) (i : ℕ) → i < length text → all_ascii_digits (take i text) ≡ true
    → is_ascii_digit (get_or text i 0) ≡ true → all_ascii_digits (take (i + 1) text) ≡ true
digits-more text i low all one = ap (λ k. all_ascii_digits (take k text)) (add-one i) ∙ one_more text i low all one

-- what they write with it
pub value-more : (text : List ℕ) (i : ℕ) → i < length text → is_ascii_digit (get_or text i 0) ≡ true
    → digits_value 10 (take (i + 1) text) ≡ digits_value 10 (take i text) * 10 + (get_or text i 0 - 48)
value-more text i low one =
    let digit : digit_value (get_or text i 0) ≡ get_or text i 0 - 48 = grind (arith, one) in
    digits_value_more 10 text i low ∙ ap (λ d. digits_value 10 (take i text) * 10 + d) digit

digit-at : (text : List ℕ) (i : ℕ) → all_ascii_digits text ≡ true → i < length text → is_ascii_digit (get_or text i 0) ≡ true
digit-at [] i all low = absurd (omega (arith, low))
digit-at (c ∷ text) zero all low = (and_parts (is_ascii_digit c) (all_ascii_digits text) all).0
digit-at (c ∷ text) (suc i) all low =
    digit-at text i (and_parts (is_ascii_digit c) (all_ascii_digits text) all).1 (omega (arith, low))

-- a text with another character writes no number
pub number-not_digits : (text : List ℕ) (i : ℕ) → i < length text → is_ascii_digit (get_or text i 0) ≡ false → number_written text ≡ None
number-not_digits text i low other = no_number text (λ h. cc (sym other ∙ digit-at text i h.0 low))

-- nor does one whose first digits write too large a number
pub number-too_large : (text : List ℕ) (i : ℕ) → 2 ^ 64 ≤ digits_value 10 (take i text) → number_written text ≡ None
number-too_large text i large = no_number text (λ h. absurd (omega (arith, h.2, large, digits_value-take-le 10 text i (omega arith))))

-- digits, at least one, that write no larger number
pub number-digits : (text : List ℕ) → Writes text → number_written text ≡ Some (digits_value 10 text)
number-digits text h =
    let some : nat_lt 0 (length text) ≡ true = grind (arith, h.1) in
    let fits : nat_lt (digits_value 10 text) (2 ^ 64) ≡ true = grind (arith, h.2) in
    let on : writes text ≡ true = and_from _ _ (and_from _ _ some h.0) fits in
    rw on refl

-- ---- the text before and after the first such byte

module _ (byte : ℕ) where
  abbrev is_byte : ℕ → Bool
  is_byte c = c == byte

  none-at : (text : List ℕ) → ((k : ℕ) → k < length text → is_byte (get_or text k 0) ≡ false) → parted_at byte text ≡ None
  none-at [] h = refl
  none-at (c ∷ text) h =
      let apart : (c == byte) ≡ false = h 0 (omega arith) in
      rw (apart, none-at text (λ k l. h (suc k) (omega arith))) refl

  -- no such byte, and no parts
  pub parted-none : (text : List ℕ) → position is_byte text ≡ None → parted_at byte text ≡ None
  parted-none text h =
      let past : length text ≤ position_or_len is_byte text = grind (arith, common_steps) in
      none-at text (λ k l. fails_before_first is_byte text k 0 (omega arith))

  byte-at : (text : List ℕ) (i : ℕ) → i < length text → is_byte (get_or text i 0) ≡ true
      → ((k : ℕ) → k < i → is_byte (get_or text k 0) ≡ false) → parted_at byte text ≡ Some (take i text, drop (suc i) text)
  byte-at [] i within is before = absurd (omega arith)
  byte-at (c ∷ text) zero within is before = let here : (c == byte) ≡ true = is in rw here refl
  byte-at (c ∷ text) (suc i) within is before =
      let apart : (c == byte) ≡ false = before 0 (omega arith) in
      rw (apart, byte-at text i (omega arith) is (λ k l. before (suc k) (omega arith))) refl

  -- the parts around the first such byte
  pub parted-some : (text : List ℕ) (i : ℕ) → position is_byte text ≡ Some i
      → parted_at byte text ≡ Some (take i text, take (length text - (i + 1)) (drop (i + 1) text))
  parted-some text i h =
      let found = position-Some is_byte text i 0 h in
      byte-at text i found.0 found.1 found.2 ∙ sym (rw (take_rest text (i + 1), add-one) refl)
