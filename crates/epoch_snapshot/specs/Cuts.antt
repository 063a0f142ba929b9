-- What a cut records.
use Rattle.std.specs.Prelude.{ℕ, ◌*◌, Bool, not, ◌==◌, List, map, filter, take, drop}
use Rattle.std.specs.List.{range_with_len}
use Rattle.epoch_snapshot.specs.declared.changes.PageChange.{PageChange}
use Rattle.epoch_snapshot.specs.declared.changes.SectorChange.{SectorChange}
use Rattle.epoch_snapshot.specs.Blocks.{is_zero, block_in, xored, block_numbers, changed_mask}

-- a page with the mask of its blocks that differ in two memories
abbrev pub page_change : List ℕ → List ℕ → ℕ → PageChange
page_change old new page = record { page = page; mask = changed_mask old new page }

abbrev pub is_changed : PageChange → Bool
is_changed p = not (p.mask == 0)

-- of so many pages those that differ in two memories, rising, each with the mask of its blocks that do
unfoldable pub changed_pages : List ℕ → List ℕ → ℕ → List PageChange
changed_pages old new pages = filter is_changed (map (page_change old new) (range_with_len 0 pages))

-- a block of the old memory XOR the new one's
abbrev pub block_change : List ℕ → List ℕ → ℕ → List ℕ
block_change old new n = xored (block_in old n) (block_in new n)

-- the blocks that pages change, in turn, the old XOR the new
abbrev pub changed_blocks : List ℕ → List ℕ → List PageChange → List (List ℕ)
changed_blocks old new pages = map (block_change old new) (block_numbers pages)

-- a sector of a disk, by its number
abbrev pub sector_of : List ℕ → ℕ → List ℕ
sector_of bytes i = take 512 (drop (512 * i) bytes)

-- a sector with its bytes
abbrev pub sector_change : List ℕ → ℕ → SectorChange
sector_change bytes i = record { sector = i; bytes = sector_of bytes i }

-- these sectors, with their bytes
abbrev pub changed_sectors : List ℕ → List ℕ → List SectorChange
changed_sectors bytes sectors = map (sector_change bytes) sectors

-- of so many sectors those that aren't all zero, rising
unfoldable pub used_sectors : List ℕ → ℕ → List ℕ
used_sectors bytes sectors = filter (λ i. not (is_zero (sector_of bytes i))) (range_with_len 0 sectors)
