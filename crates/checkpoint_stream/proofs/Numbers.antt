-- A number and its bytes give each other.
use Rattle.std.proofs.Common.{◌≡◌, ℕ, ◌<◌, ◌≤◌, ◌^◌, ◌==◌, true, List, [], ◌∷◌, length, refl, arith, suc, zero, All, get_or, lit<}
use Rattle.std.proofs.lemmas.{Bool.Decides.nat_tests, List.Elements.{All-head, All-tail}}
use Rattle.std.proofs.lemmas.{Nat.{from_le_bytes-to_le_bytes_2, from_le_bytes-to_le_bytes_4}}
use Rattle.std.proofs.lemmas.Nat.{from_le_bytes-to_le_bytes_8, le_bytes_2, le_bytes_4, le_bytes_8}
use Rattle.checkpoint_stream.specs.{declared.rules.{Width.{Width, TheVariants.{Two, Four, Eight}}, Row.Row}}
use Rattle.checkpoint_stream.specs.{HeadTable.{head_table, bytes_in, bytes_of}}
use Rattle.checkpoint_stream.specs.HeadTable.{number_spelled}

pub length-head_table : length head_table ≡ 80
unfolding head_table
length-head_table = refl

pub eq-true : (m n : ℕ) → (m == n) ≡ true → m ≡ n
eq-true m n e = grind (arith, nat_tests)

-- the least number that a width can't hold
abbrev pub limit_of : Width → ℕ
limit_of Two = 2 ^ 16
limit_of Four = 2 ^ 32
limit_of Eight = 2 ^ 64

pub number-back : (w : Width) (n : ℕ) → n < limit_of w → number_spelled w (bytes_of w n) ≡ n
unfolding number_spelled bytes_of
number-back Two n h = from_le_bytes-to_le_bytes_2 n h
number-back Four n h = from_le_bytes-to_le_bytes_4 n h
number-back Eight n h = from_le_bytes-to_le_bytes_8 n h

pub length-bytes_of : (w : Width) (n : ℕ) → length (bytes_of w n) ≡ bytes_in w
unfolding bytes_of
length-bytes_of Two n = refl
length-bytes_of Four n = refl
length-bytes_of Eight n = refl

pub width-most : (w : Width) → bytes_in w ≤ 8
width-most Two = omega arith
width-most Four = omega arith
width-most Eight = omega arith

pub some-bytes : (w : Width) (n : ℕ) → 0 < length (bytes_of w n)
some-bytes Two n = omega (arith, length-bytes_of Two n)
some-bytes Four n = omega (arith, length-bytes_of Four n)
some-bytes Eight n = omega (arith, length-bytes_of Eight n)

-- there is a number for each row, and each is as wide as its row
abbrev pub AllFit : List Row → List ℕ → Type 0
AllFit [] [] = Unit {0}
AllFit [] (n ∷ ns) = ⊥
AllFit (row ∷ rows) [] = ⊥
AllFit (row ∷ rows) (n ∷ ns) = (n < limit_of row.width) × AllFit rows ns

abbrev pub IsByte : ℕ → Type 0
IsByte b = b < 256

byte-at : (bs : List ℕ) → All IsByte bs → (i : ℕ) → get_or bs i 0 < 256
byte-at [] all i = lit< tt
byte-at (b ∷ bs) all zero = All-head IsByte b bs all
byte-at (b ∷ bs) all (suc i) = byte-at bs (All-tail IsByte b bs all) i

pub bytes-back : (w : Width) (bs : List ℕ) → length bs ≡ bytes_in w → All IsByte bs → bytes_of w (number_spelled w bs) ≡ bs
unfolding number_spelled bytes_of
bytes-back Two bs e all = le_bytes_2 bs _ e (byte-at bs all) refl
bytes-back Four bs e all = le_bytes_4 bs _ e (byte-at bs all) refl
bytes-back Eight bs e all = le_bytes_8 bs _ e (byte-at bs all) refl

pub number-small : (w : Width) (bs : List ℕ) → All IsByte bs → number_spelled w bs < limit_of w
unfolding number_spelled
number-small Two bs all = let at : (i : ℕ) → get_or bs i 0 < 256 = byte-at bs all in omega (arith, at 0, at 1)
number-small Four bs all =
    let at : (i : ℕ) → get_or bs i 0 < 256 = byte-at bs all in omega (arith, at 0, at 1, at 2, at 3)
number-small Eight bs all =
    let at : (i : ℕ) → get_or bs i 0 < 256 = byte-at bs all in omega (arith, at 0, at 1, at 2, at 3, at 4, at 5, at 6, at 7)
