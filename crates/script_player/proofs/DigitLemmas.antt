-- Hex digits with no letter in upper case: what they stand for is spelled so again.
use Rattle.std.proofs.Common.{◌≡◌, ◌<◌, ◌+◌, ◌*◌, ◌/◌, ◌%◌, ◌==◌, ◌||◌, ℕ, suc, Bool, true, false, List, [], ◌∷◌, length}
use Rattle.std.proofs.Common.{slice_index, Option, Some, None, IfSome, Result, Ok, Err, refl, sym, ap, arith, ◌∙◌}
use Rattle.std.{proofs.lemmas.Bool.{agree_below_at, eqb-true, or_parts, or_from}, specs.{Char.is_ascii_uppercase, List.list_any}}
use Rattle.std.specs.Result.{result_ok, result_unwrap_or}
use Rattle.hex.specs.Hex.{encode_lower, encode_with, lower_digits, hex_digit_value, digit_or_error, value_at, pair_value, decode_pairs}
use Rattle.hex.specs.{Hex.{decode_of, decode_sized, IsBytes, ◌>>=◌}, declared.error.FromHexError.FromHexError}
use Rattle.hex.proofs.HexLemmas.{decode_of-ok, decode_of-even, decode_sized-ok, decode_sized-twice}

-- ---- one digit

not_upper : (v : ℕ) → v < 16 → is_ascii_uppercase (slice_index lower_digits v) ≡ false
not_upper v small = agree_below_at (λ v. is_ascii_uppercase (slice_index lower_digits v)) (λ _. false) 16 v refl small

-- the digit c is in upper case, or is the one that is written for its value
abbrev is_again : ℕ → Option ℕ → Bool
is_again c (Some v) = is_ascii_uppercase c || slice_index lower_digits v == c
is_again c None = true

-- `f`, the last digit, is 102
digit_bound : (c v : ℕ) → hex_digit_value c ≡ Some v → c < 103
digit_bound c v h = grind arith

digit_small : (c v : ℕ) → hex_digit_value c ≡ Some v → v < 16
digit_small c v h = grind arith

second : (a b : Bool) → a ≡ false → (a || b) ≡ true → b ≡ true
second true b low h = cc
second false b low h = h

-- the digit of a value is that value's
digit_again : (c v : ℕ) → hex_digit_value c ≡ Some v → is_ascii_uppercase c ≡ false → slice_index lower_digits v ≡ c
digit_again c v h low =
    let all = agree_below_at (λ c. is_again c (hex_digit_value c)) (λ _. true) 103 c refl (digit_bound c v h) in
    let tested : is_again c (Some v) ≡ true = rw h at all in
    eqb-true (slice_index lower_digits v) c (second (is_ascii_uppercase c) (slice_index lower_digits v == c) low tested)

-- ---- all digits

bind_ok : {A B : Type 0} (r : Result A FromHexError) (f : A → Result B FromHexError) (y : B) → (r >>= f) ≡ Ok y
    → (x : A) × (r ≡ Ok x) × (f x ≡ Ok y)
bind_ok (Ok x) f y h = (x, refl, h)
bind_ok (Err e) f y h = cc h

digit_read : (c i : ℕ) (o : Option ℕ) (v : ℕ) → digit_or_error c i o ≡ Ok v → o ≡ Some v
digit_read c i (Some w) v h = ap Some (ap (λ (r : Result ℕ FromHexError). result_unwrap_or r 0) h)
digit_read c i None v h = cc h

pair_again : (high low v w byte : ℕ) → hex_digit_value high ≡ Some v → hex_digit_value low ≡ Some w → is_ascii_uppercase high ≡ false
    → is_ascii_uppercase low ≡ false
    → v * 16 + w ≡ byte → (slice_index lower_digits (byte / 16) ≡ high) × (slice_index lower_digits (byte % 16) ≡ low)
pair_again high low v w byte hv hw ha hb e =
    let small = digit_small low w hw in
    let front : byte / 16 ≡ v = omega arith in
    let back : byte % 16 ≡ w = omega arith in
    (ap (slice_index lower_digits) front ∙ digit_again high v hv ha, ap (slice_index lower_digits) back ∙ digit_again low w hw hb)

cons_two : (a b c d : ℕ) (xs ys : List ℕ) → c ≡ a → d ≡ b → xs ≡ ys → (a ∷ b ∷ xs) ≡ (c ∷ d ∷ ys)
cons_two a b c d xs ys p q r = cc

pairs_again : (i : ℕ) (s bytes : List ℕ) → decode_pairs i s ≡ Ok bytes → list_any is_ascii_uppercase s ≡ false → s ≡ encode_lower bytes
unfolding decode_pairs encode_with
pairs_again i [] bytes h low = ap encode_lower (ap (λ (r : Result (List ℕ) FromHexError). result_unwrap_or r []) h)
pairs_again i (a ∷ []) bytes h low = cc h
pairs_again i (a ∷ b ∷ rest) bytes h low =
    let pair = bind_ok (pair_value a b i) _ bytes h in
    let front = bind_ok (value_at a i) _ pair.0 pair.1 in
    let back = bind_ok (value_at b (i + 1)) _ pair.0 front.2 in
    let more = bind_ok (decode_pairs (i + 2) rest) _ bytes pair.2 in
    let byte : front.0 * 16 + back.0 ≡ pair.0 = ap (λ (r : Result ℕ FromHexError). result_unwrap_or r 0) back.2 in
    let all : pair.0 ∷ more.0 ≡ bytes = ap (λ (r : Result (List ℕ) FromHexError). result_unwrap_or r []) more.2 in
    let first = or_parts (is_ascii_uppercase a) (list_any is_ascii_uppercase (b ∷ rest)) low in
    let next = or_parts (is_ascii_uppercase b) (list_any is_ascii_uppercase rest) first.1 in
    let two = pair_again a b front.0 back.0 pair.0 (digit_read a i (hex_digit_value a) front.0 front.1)
    (digit_read b (i + 1) (hex_digit_value b) back.0 back.1) first.0 next.0 byte in
    cons_two a b _ _ rest _ two.0 two.1 (pairs_again (i + 2) rest more.0 more.1 next.1) ∙ ap encode_lower all

-- what digits without upper case decode to, is spelled so
pub lower-again : (s bytes : List ℕ) → decode_of s ≡ Ok bytes → list_any is_ascii_uppercase s ≡ false → s ≡ encode_lower bytes
lower-again s bytes h low = pairs_again 0 s bytes (sym (decode_of-even s (decode_of-ok s bytes h).0) ∙ h) low

pub none_in_upper_case : (bytes : List ℕ) → IsBytes bytes → list_any is_ascii_uppercase (encode_lower bytes) ≡ false
unfolding encode_with
none_in_upper_case [] h = refl
none_in_upper_case (b ∷ rest) h =
    let fits : b < 256 = h 0 in
    or_from _ _ (not_upper (b / 16) (omega arith))
    (or_from _ _ (not_upper (b % 16) (omega arith)) (none_in_upper_case rest (λ i. h (suc i))))

-- ---- into room for n bytes

-- what is read is spelled so, and has as many bytes
pub sized-again : (s : List ℕ) (n : ℕ) (r : Result (List ℕ) FromHexError) → r ≡ decode_sized s n → list_any is_ascii_uppercase s ≡ false
    → IfSome (result_ok r) (λ bytes. s ≡ encode_lower bytes) × IfSome (result_ok r) (λ bytes. (length bytes ≡ n) × IsBytes bytes)
sized-again s n (Ok bytes) e low =
    let twice = decode_sized-ok s n bytes (sym e) in
    let whole = sym (decode_sized-twice s n twice) ∙ sym e in
    let facts = decode_of-ok s bytes whole in
    (lower-again s bytes whole low, (omega (arith, twice, facts.2), facts.3))
sized-again s n (Err f) e low = (tt, tt)
