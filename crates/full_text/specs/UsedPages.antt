-- The pages of a memory that aren't all zero, and their blocks.
use Rattle.std.specs.Prelude.{ℕ, Bool, List, map, filter, replicate}
use Rattle.std.specs.List.{range_with_len}
use Rattle.std.specs.Simd.Lanes.{mask_l}
use Rattle.epoch_snapshot.specs.declared.changes.PageChange.{PageChange}
use Rattle.epoch_snapshot.specs.Blocks.{block_in, differ}
use Rattle.epoch_snapshot.specs.Cuts.{is_changed}

-- whether each of the first blocks of a page differs from zeros, and the mask of those that do
abbrev pub used_flags : List ℕ → ℕ → List Bool
used_flags page n = map (λ i. differ (replicate 64 0) (block_in page i)) (range_with_len 0 n)

abbrev pub used_mask : List ℕ → ℕ → ℕ
used_mask page n = mask_l (used_flags page n)

-- a page, whose bytes a function of the index gives, with the mask of all its blocks that do
abbrev pub used_page : (ℕ → List ℕ) → ℕ → PageChange
used_page bytes page = record { page = page; mask = used_mask (bytes page) 64 }

-- of so many pages those that aren't all zero, rising
unfoldable pub used_pages : (ℕ → List ℕ) → ℕ → List PageChange
used_pages bytes pages = filter is_changed (map (used_page bytes) (range_with_len 0 pages))
