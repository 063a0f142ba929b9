-- A delivery is read from the left, and has one reading.
use Rattle.std.proofs.Common.{◌≡◌, ◌<◌, ◌/◌, ◌%◌, ℕ, suc, true, false, List, [], ◌∷◌, ◌++◌, length, slice_index, Option, Some, None, IfSome}
use Rattle.std.proofs.Common.{IfNone, Ok, refl, sym, ap, subst, arith, ◌∙◌, codes}
use Rattle.std.proofs.lemmas.{List.Sums.{AllPass-from_list_all, list_all-from_AllPass}, Bool.{agree_below_at, and_from}}
use Rattle.std.specs.{Char.{is_ascii_hexdigit, is_ascii_uppercase}, List.{list_all, list_any}, Option.option_map}
use Rattle.hex.specs.Hex.{decode_of, encode_lower, encode_with, lower_digits, is_hex_digit, IsBytes}
use Rattle.hex.proofs.HexLemmas.{decode_of-digits, decode_of-encode_lower, decode_of-ok, decode_of-same, length-encode_with}
use Rattle.script_player.specs.internal.Digits.{is_lower_digit}
use Rattle.script_player.proofs.DigitLemmas.{lower-again, none_in_upper_case}
use Rattle.script_player.specs.laws.Fields.{text_after-some, operand_of-spelled}
use Rattle.script_player.specs.laws.Fields.{operand_of-read}
use Rattle.script_player.specs.laws.Options.{and_then_some, some_same, pair_parts}
use Rattle.script_player.specs.{Fields.{text_after, operand_of}, Delivery.{IsHex, IsDelivery, delivery_head}}

-- what is read is spelled so
pub delivery-read : (text : List ℕ) (client : ℕ) (digits bytes : List ℕ) → delivery_head text ≡ Some (client, digits) → IsHex digits bytes
    → IsDelivery text client bytes
delivery-read text client digits bytes h hex =
    let front = and_then_some operand_of (text_after (codes "deliver ") text) (client, digits) h in
    let p = operand_of-read front.0 client digits front.2 in
    record {
      number = p.0;
      digits = digits;
      shape = text_after-some (codes "deliver ") text front.0 front.1 ∙ ap (λ t. codes "deliver " ++ t) p.1;
      client_written = p.2;
      bytes_written = hex;
    }

-- what is spelled so is read so
pub delivery-spelled : (text : List ℕ) (client : ℕ) (bytes : List ℕ) (h : IsDelivery text client bytes)
    → delivery_head text ≡ Some (client, h.digits)
delivery-spelled text client bytes h = ap delivery_head h.shape ∙ operand_of-spelled h.number h.digits client h.client_written

-- a delivery has the number and the digits that are read
pub one-reading : (text : List ℕ) (client : ℕ) (bytes : List ℕ) (n : ℕ) (digits : List ℕ) → delivery_head text ≡ Some (n, digits)
    → IsDelivery text client bytes → (n ≡ client) × IsHex digits bytes
one-reading text client bytes n digits head h =
    let both = pair_parts (some_same (sym head ∙ delivery-spelled text client bytes h)) in
    (both.0, subst (λ ds. IsHex ds bytes) (sym both.1) h.bytes_written)

-- digits that write bytes decode to them
hex-decodes : (digits bytes : List ℕ) → IsHex digits bytes → decode_of digits ≡ Ok bytes
hex-decodes digits bytes h = ap decode_of h.shape ∙ decode_of-encode_lower bytes h.below

-- a hex digit is one to std as it is to hex
same_digits : (digits : List ℕ) → list_all is_ascii_hexdigit digits ≡ list_all is_hex_digit digits
same_digits [] = refl
same_digits (c ∷ digits) = let one : is_ascii_hexdigit c ≡ is_hex_digit c = grind arith in rw (one, same_digits digits) refl

-- digits that write bytes, at least one: two for each, none in upper case
pub record AreLowerHex (digits : List ℕ) : Type 0 where
  pub some : 0 < length digits
  pub even : length digits % 2 ≡ 0
  pub low : list_any is_ascii_uppercase digits ≡ false
  pub all : list_all is_ascii_hexdigit digits ≡ true

pub they-write : (digits : List ℕ) → AreLowerHex digits → (bytes : List ℕ) × IsHex digits bytes
they-write digits h =
    let decoded = decode_of-digits digits h.even (AllPass-from_list_all is_hex_digit digits (sym (same_digits digits) ∙ h.all)) in
    let facts = decode_of-ok digits decoded.0 decoded.1 in (
      decoded.0,
      record {
        shape = lower-again digits decoded.0 decoded.1 h.low;
        some = omega (arith, h.some, facts.2);
        below = facts.3;
      },
    )

pub they-are : (digits bytes : List ℕ) → IsHex digits bytes → AreLowerHex digits
they-are digits bytes h =
    let facts = decode_of-ok digits bytes (hex-decodes digits bytes h) in
    record {
      some = omega (arith, h.some, facts.2);
      even = facts.0;
      low = ap (list_any is_ascii_uppercase) h.shape ∙ none_in_upper_case bytes h.below;
      all = same_digits digits ∙ list_all-from_AllPass is_hex_digit digits facts.1;
    }

-- ---- what is read of digits, if all are in lower case

lower-one : (v : ℕ) → v < 16 → is_lower_digit (slice_index lower_digits v) ≡ true
lower-one v small = agree_below_at (λ v. is_lower_digit (slice_index lower_digits v)) (λ _. true) 16 v refl small

pub all-lower : (bytes : List ℕ) → IsBytes bytes → list_all is_lower_digit (encode_lower bytes) ≡ true
unfolding encode_with
all-lower [] h = refl
all-lower (b ∷ bytes) h =
    let fits : b < 256 = h 0 in
    and_from _ _ (lower-one (b / 16) (omega arith))
    (and_from _ _ (lower-one (b % 16) (omega arith)) (all-lower bytes (λ i. h (suc i))))

-- digits write one list of bytes
pub same-bytes : (digits xs ys : List ℕ) → IsBytes xs → IsBytes ys → digits ≡ encode_lower xs → digits ≡ encode_lower ys → xs ≡ ys
same-bytes digits xs ys small small' e e' =
    decode_of-same digits xs ys (ap decode_of e ∙ decode_of-encode_lower xs small) (ap decode_of e' ∙ decode_of-encode_lower ys small')

pub read-hex : {V : Type 0} (digits : List ℕ) (items : V → List ℕ) (o : Option V)
    → IfSome o (λ v. (digits ≡ encode_lower (items v)) × IsBytes (items v)) → 0 < length digits → IfSome o (λ v. IsHex digits (items v))
read-hex digits items None found some = tt
read-hex digits items (Some v) found some = record {
  shape = found.0;
  some = omega (arith, ap length found.0, length-encode_with lower_digits (items v));
  below = found.1;
}

pub read-only : {V : Type 0} (digits bytes : List ℕ) (items : V → List ℕ) (o : Option V)
    → IfSome o (λ v. (digits ≡ encode_lower (items v)) × IsBytes (items v)) → IfNone o (list_all is_lower_digit digits ≡ false)
    → IsHex digits bytes → option_map items o ≡ Some bytes
read-only digits bytes items None found none h =
    cc (sym none ∙ ap (list_all is_lower_digit) h.shape ∙ all-lower bytes h.below)
read-only digits bytes items (Some v) found none h =
    ap Some (decode_of-same digits (items v) bytes (ap decode_of found.0 ∙ decode_of-encode_lower (items v) found.1) (hex-decodes digits bytes h))
