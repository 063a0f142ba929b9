-- What a disk holds.
use Rattle.std.specs.Prelude.{◌≡◌, ℕ, ◌+◌, ◌*◌, ◌/◌, ◌%◌, ◌≤◌, Bool, ◌==◌, ◌&&◌, List, [], length, replicate, nat_le, slice_range}
use Rattle.virtqueue.specs.Memory.{written}
use Rattle.block_device.specs.Sectors.{sector_count, sector_of}
use Rattle.block_device.specs.Dirty.{Rises, with_written}
use Rattle.block_device.specs.Limits.{sector_bytes, most_sectors}

-- the bytes of all sectors, one after another, and the sectors that were written since the list was last emptied
pub record Contents : Type 0 where
  pub bytes : List ℕ
  pub dirty : List ℕ

abbrev pub contents_of : List ℕ → List ℕ → Contents
contents_of bytes dirty = record { bytes = bytes; dirty = dirty }

-- the same bytes, and none of the sectors in the list
abbrev pub unlisted : Contents → Contents
unlisted c = contents_of c.bytes []

-- how many sectors it has, and one of them
abbrev pub capacity : Contents → ℕ
capacity c = sector_count c.bytes

abbrev pub sector_at : Contents → ℕ → List ℕ
sector_at c i = sector_of c.bytes i

-- what is true of each disk: it has 1 to 32768 whole sectors, and its list rises and names sectors of its own
pub record IsDisk (c : Contents) : Type 0 where
  pub whole : length c.bytes ≡ sector_bytes * capacity c
  pub least : 1 ≤ capacity c
  pub most : capacity c ≤ most_sectors
  pub dirty : Rises 0 (capacity c) c.dirty

-- a disk at boot: each byte is 0, and nothing was written
abbrev pub boot_contents : ℕ → Contents
boot_contents sectors = record { bytes = replicate (sector_bytes * sectors) 0; dirty = [] }

-- so many bytes from a sector on are whole sectors of the disk. Numbers do not wrap here
abbrev pub in_capacity : Contents → ℕ → ℕ → Bool
in_capacity c sector n = n % sector_bytes == 0 && nat_le (sector + n / sector_bytes) (capacity c)

-- the bytes from a sector on
abbrev pub bytes_at : Contents → ℕ → ℕ → List ℕ
bytes_at c sector n = slice_range c.bytes (sector_bytes * sector) (sector_bytes * sector + n)

-- a disk after whole sectors were written from one on
abbrev pub contents_with : Contents → ℕ → List ℕ → Contents
contents_with c sector new = record {
  bytes = written c.bytes (sector_bytes * sector) new;
  dirty = with_written c.dirty sector (length new / sector_bytes);
}
