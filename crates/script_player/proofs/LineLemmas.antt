-- The lines of a text, one by one and in pieces.
use Rattle.std.proofs.Common.{◌≡◌, ◌<◌, ◌+◌, ◌-◌, ℕ, List, [], ◌∷◌, ◌++◌, length, take, drop, get_or, Bool, false, Option, None}
use Rattle.std.proofs.{Common.{Some, suc, Bor, refl, sym, ap, ◌∙◌, arith, add-one, length-take}, lemmas.Bool.false_from_ne_true}
use Rattle.std.proofs.lemmas.List.{take-append-drop, take_rest, get_or-take, Elements.All-from_get_or}
use Rattle.std.proofs.{lemmas.List.Splits.{slice_split_at, slice_split_none}, Math.Seq.drop-cons}
use Rattle.std.specs.{Prelude.{◌==◌, All}, Option.option_map}
use Rattle.memchr.specs.Find.{IsFirstByte, is_byte}
use Rattle.script_player.specs.Meaning.{lines_of}

-- a text that a slice lends
abbrev pub texts : Option (Bor (List ℕ)) → Option (List ℕ)
texts left = option_map (λ text. text.now) left

abbrev is_newline : ℕ → Bool
is_newline byte = byte == 10

abbrev pub IsOther : ℕ → Type 0
IsOther byte = is_newline byte ≡ false

-- the bytes up to the first newline, it, and those behind it
pub at-newline : (xs : List ℕ) (end : ℕ) → IsFirstByte (is_byte 10) xs (Some end)
    → All IsOther (take end xs) × (xs ≡ take end xs ++ 10 ∷ drop (end + 1) xs)
at-newline xs end h =
    let within : end < length xs = h.0.high in
    let other : All IsOther (take end xs) = All-from_get_or IsOther (take end xs) 0 (λ i l.
    let below : i < end = omega (arith, length-take end xs) in
    rw (get_or-take end xs i 0 below) (false_from_ne_true (is_newline (get_or xs i 0)) (h.0.before i (omega arith) below))) in
    let newline : get_or xs end 0 ≡ 10 = grind (arith, h.1) in
    let back : drop end xs ≡ 10 ∷ drop (end + 1) xs = rw (add-one, drop-cons xs end 0) (ap (λ b. b ∷ drop (suc end) xs) newline) in
    (other, sym (take-append-drop end xs) ∙ ap (λ t. take end xs ++ t) back)

-- no byte is a newline
pub all-other : (xs : List ℕ) → IsFirstByte (is_byte 10) xs None → All IsOther xs
all-other xs h = All-from_get_or IsOther xs 0 (λ i l. false_from_ne_true (is_newline (get_or xs i 0)) (h i (omega arith) l))

-- the first line ends at the first newline
pub first-line : (xs : List ℕ) (end : ℕ) → IsFirstByte (is_byte 10) xs (Some end)
    → lines_of xs ≡ take end xs ∷ lines_of (take (length xs - (end + 1)) (drop (end + 1) xs))
first-line xs end h =
    let parts = at-newline xs end h in
    ap lines_of parts.1 ∙ slice_split_at is_newline (take end xs) 10 (drop (end + 1) xs) parts.0 refl
    ∙ ap (λ t. take end xs ∷ lines_of t) (sym (take_rest xs (end + 1)))

-- a text without a newline is one line
pub last-line : (xs : List ℕ) → IsFirstByte (is_byte 10) xs None → lines_of xs ≡ xs ∷ []
last-line xs h = slice_split_none is_newline xs (all-other xs h)
