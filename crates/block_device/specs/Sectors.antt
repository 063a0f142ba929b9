-- The sectors of a disk, by the bytes of all of them, one sector after another.
use Rattle.std.specs.Prelude.{ℕ, ◌+◌, ◌*◌, ◌/◌, if◌then◌else◌, List, length, Option, Some, None, nat_lt, slice_range}
use Rattle.block_device.specs.Limits.{sector_bytes}

-- how many sectors there are
abbrev pub sector_count : List ℕ → ℕ
sector_count bytes = length bytes / sector_bytes

-- the bytes of one sector
abbrev pub sector_of : List ℕ → ℕ → List ℕ
sector_of bytes i = slice_range bytes (sector_bytes * i) (sector_bytes * i + sector_bytes)

-- one sector; none past the last
abbrev pub sector_in : List ℕ → ℕ → Option (List ℕ)
sector_in bytes i = if nat_lt i (sector_count bytes) then Some (sector_of bytes i) else None
