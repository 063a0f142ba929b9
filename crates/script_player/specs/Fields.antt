-- How the fields of a script's line are spelled.
use Rattle.std.specs.Prelude.{ℕ, ◌^◌, ◌&&◌, ◌==◌, nat_lt, List, [], ◌∷◌, Option, Some, None, length, if◌then◌else◌, option_and_then}
use Rattle.std.specs.Prelude.{option_map}
use Rattle.std.specs.Str.{all_ascii_digits}
use Rattle.std.specs.Str.Parse.{digits_value}

-- what stands after front, in a text that begins with it
abbrev pub text_after : List ℕ → List ℕ → Option (List ℕ)
text_after [] text = Some text
text_after (f ∷ front) [] = None
text_after (f ∷ front) (c ∷ text) = if f == c then text_after front text else None

-- the number that a text writes: only decimal digits, at least one, that stand for less than 2^64
abbrev pub number_written : List ℕ → Option ℕ
number_written text =
    if nat_lt 0 (length text) && all_ascii_digits text && nat_lt (digits_value 10 text) (2 ^ 64)
    then Some (digits_value 10 text) else None

-- the number after front
abbrev pub numbered_by : List ℕ → List ℕ → Option ℕ
numbered_by front text = option_and_then number_written (text_after front text)

-- the front of a text up to the first such byte, and what stands after that
abbrev pub parted_at : ℕ → List ℕ → Option (List ℕ × List ℕ)
parted_at byte [] = None
parted_at byte (c ∷ text) = if c == byte then Some ([], text) else option_map (λ parts. (c ∷ parts.0, parts.1)) (parted_at byte text)

-- the front of a text up to its first space, and what stands after that
abbrev pub parted : List ℕ → Option (List ℕ × List ℕ)
parted text = parted_at 32 text

-- the number that parts gives, with the text after it
abbrev pub number_in : List ℕ × List ℕ → Option (ℕ × List ℕ)
number_in parts = option_map (λ n. (n, parts.1)) (number_written parts.0)

-- a number at the front, and the text after the byte that ends it
abbrev pub operand_at : ℕ → List ℕ → Option (ℕ × List ℕ)
operand_at byte text = option_and_then number_in (parted_at byte text)

-- a number at the front, and the text after the space that ends it
abbrev pub operand_of : List ℕ → Option (ℕ × List ℕ)
operand_of text = operand_at 32 text

-- a number, and the one that the text after it writes
abbrev pub with_second : ℕ × List ℕ → Option (ℕ × ℕ)
with_second found = option_map (λ n. (found.0, n)) (number_written found.1)

-- two numbers after front, parted by one space
abbrev pub numbers_by : List ℕ → List ℕ → Option (ℕ × ℕ)
numbers_by front text = option_and_then with_second (option_and_then operand_of (text_after front text))
