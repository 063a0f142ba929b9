-- Sets of sectors that were written. Their lists rise, so no sector stands in one twice.
use Rattle.std.specs.Prelude.{
  ◌≡◌,
  ℕ,
  ◌+◌,
  ◌*◌,
  ◌/◌,
  ◌%◌,
  ◌≤◌,
  Bool,
  false,
  ◌==◌,
  ◌||◌,
  if◌then◌else◌,
  List,
  [],
  ◌∷◌,
  ◌++◌,
  length,
  filter,
  nat_lt,
  nat_le,
  slice_index,
}
use Rattle.std.specs.Int.{bit_at}
use Rattle.std.specs.List.{range_with_len}

-- the numbers rise, the first is at least `from`, and the last is below `end`
abbrev pub Rises : ℕ → ℕ → List ℕ → Type 0
Rises from end [] = from ≤ end
Rises from end (i ∷ is) = (from ≤ i) × Rises (i + 1) end is

-- a list after `count` sectors from `first` on were written: those below, these, and those above
abbrev pub with_written : List ℕ → ℕ → ℕ → List ℕ
with_written dirty first count =
    filter (λ i. nat_lt i first) dirty ++ range_with_len first count ++ filter (λ i. nat_le (first + count) i) dirty

-- a number stands in a list
abbrev pub is_in : ℕ → List ℕ → Bool
is_in i [] = false
is_in i (j ∷ js) = i == j || is_in i js

-- a set of sectors: how many sectors the disk has, and those in the set, in rising order
pub record Sectors : Type 0 where
  pub room : ℕ
  pub list : List ℕ

abbrev pub sectors_of : ℕ → List ℕ → Sectors
sectors_of room list = record { room = room; list = list }

abbrev pub no_sectors : ℕ → Sectors
no_sectors room = sectors_of room []

-- the bit of a sector, where each word has 64 of them, from its lowest bit on
abbrev pub bit_of : List ℕ → ℕ → ℕ
bit_of words i = bit_at (slice_index words (i / 64)) (i % 64)

-- bits that say of each sector whether it is in a rising list
pub record IsSectorSet (words list : List ℕ) (room : ℕ) : Type 0 where
  pub rises : Rises 0 room list
  pub covers : room ≤ 64 * length words
  pub tells : (i : ℕ) → bit_of words i ≡ (if is_in i list then 1 else 0)
