-- Blocks of 64 bytes: 64 of them are a page of 4096 bytes.
use Rattle.std.specs.Prelude.{◌≡◌, ℕ, ◌+◌, ◌*◌, ◌<◌, Bool, not, ◌==◌, List, [], ◌∷◌, ◌++◌, map, filter, take, drop, bit_xor}
use Rattle.std.specs.List.{range_with_len, list_all, list_any}
use Rattle.std.specs.Simd.Lanes.{zip2, mask_l}
use Rattle.std.specs.Int.{bit_at}
use Rattle.epoch_snapshot.specs.declared.changes.PageChange.{PageChange}
use Rattle.epoch_snapshot.specs.Limits.{block_bytes}

-- every byte is 0
abbrev pub is_zero : List ℕ → Bool
is_zero bytes = list_all (λ b. b == 0) bytes

-- the blocks below one that a mask names, from bit 0 up, and all that it names
abbrev pub named_below : ℕ → ℕ → List ℕ
named_below mask n = filter (λ i. bit_at mask i == 1) (range_with_len 0 n)

unfoldable pub set_blocks : ℕ → List ℕ
set_blocks mask = named_below mask 64

-- the blocks that pages change, in turn, each by its number from the start of memory
unfoldable pub block_numbers : List PageChange → List ℕ
block_numbers [] = []
block_numbers (p ∷ ps) = map (λ i. 64 * p.page + i) (set_blocks p.mask) ++ block_numbers ps

-- two lists of bytes XORed position by position
abbrev pub xored : List ℕ → List ℕ → List ℕ
xored xs ys = zip2 bit_xor xs ys

-- two lists of bytes differ at some position
abbrev pub differ : List ℕ → List ℕ → Bool
differ xs ys = list_any (λ d. d) (zip2 (λ x y. not (x == y)) xs ys)

-- a block of memory, by its number
abbrev pub block_in : List ℕ → ℕ → List ℕ
block_in ram n = take block_bytes (drop (block_bytes * n) ram)

-- these bytes are a page of a memory, block by block
abbrev pub IsPageIn : List ℕ → ℕ → List ℕ → Type 0
IsPageIn ram page bytes = (i : ℕ) → i < 64 → block_in bytes i ≡ block_in ram (64 * page + i)

-- a block differs in two memories
abbrev pub block_differs : List ℕ → List ℕ → ℕ → Bool
block_differs old new n = differ (block_in old n) (block_in new n)

-- which blocks of a page differ in two memories: bit i speaks of block i
unfoldable pub changed_mask : List ℕ → List ℕ → ℕ → ℕ
changed_mask old new page = mask_l (map (λ i. block_differs old new (64 * page + i)) (range_with_len 0 64))
