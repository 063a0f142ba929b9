-- What each kernel gives, byte by byte and with no lanes. Two lists that meet here have one length.
use Rattle.std.specs.Prelude.{ℕ, ◌*◌, ◌==◌, Bool, not, List, take, drop, count_by, bit_xor}
use Rattle.std.specs.List.{list_any}
use Rattle.std.specs.Simd.Lanes.{zip2}
use Rattle.page_lanes.specs.Limits.{block_size}

-- the exclusive or of the two bytes at each position
abbrev pub xored : List ℕ → List ℕ → List ℕ
xored xs ys = zip2 bit_xor xs ys

-- at each position, whether the two bytes differ
abbrev pub differences : List ℕ → List ℕ → List Bool
differences xs ys = zip2 (λ x y. not (x == y)) xs ys

-- whether the bytes differ at some position
abbrev pub differ : List ℕ → List ℕ → Bool
differ xs ys = list_any (λ d. d) (differences xs ys)

-- at how many positions the bytes differ
abbrev pub differing : List ℕ → List ℕ → ℕ
differing xs ys = count_by (λ d. d) (differences xs ys)

-- block i of a page: its bytes from 64 * i to 64 * i + 63
abbrev pub block : ℕ → List ℕ → List ℕ
block i page = take block_size (drop (block_size * i) page)
