-- Bytes in memory, and numbers among them. A memory is the list of its bytes.
use Rattle.std.specs.Prelude.{ℕ, ◌+◌, List, ◌++◌, length, take, drop}
use Rattle.byteorder.specs.Endian.{little_number, little_bytes}
use Rattle.page_lanes.specs.Kernels.{xored}

-- the bytes with some put at a place; all others stay
abbrev pub with_bytes : List ℕ → ℕ → List ℕ → List ℕ
with_bytes bytes at new = take at bytes ++ (new ++ drop (at + length new) bytes)

-- the bytes with a block of 64 others XORed into those from a place on, byte by byte
abbrev pub with_xored : List ℕ → ℕ → List ℕ → List ℕ
with_xored bytes at block = with_bytes bytes at (xored (take 64 (drop at bytes)) block)

-- the number of n bytes that stands at a place, the lowest byte first
unfoldable pub number_at : List ℕ → ℕ → ℕ → ℕ
number_at bytes at n = little_number n (drop at bytes)

-- the bytes with a number's n lowest bytes put at a place, the lowest first
unfoldable pub with_number : List ℕ → ℕ → ℕ → ℕ → List ℕ
with_number bytes at n value = take at bytes ++ (little_bytes n value ++ drop (at + n) bytes)
