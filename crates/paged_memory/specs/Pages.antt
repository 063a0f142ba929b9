-- A memory in pages of 4096 bytes, and which of them were written since it was last settled.
use Rattle.std.specs.Prelude.{◌≡◌, ℕ, ◌+◌, ◌-◌, ◌*◌, ◌/◌, ◌%◌, ◌^◌, ◌<◌, ◌≤◌, ◌==◌, Bool, true, false, if◌then◌else◌, List, ◌++◌}
use Rattle.std.specs.Prelude.{length, replicate, take, drop, slice_range, slice_index_or, count_by}
use Rattle.paged_memory.specs.Limits.{page_bytes, most_pages}

-- the bytes, those at the last settle, a flag for each page, whether it was written since, and how many page copies were made
-- since boot, modulo 2^64
pub record Paged : Type 0 where
  pub bytes : List ℕ
  pub settled : List ℕ
  pub written : List Bool
  pub copies : ℕ

-- the bytes of a page
abbrev pub page_of : List ℕ → ℕ → List ℕ
page_of bytes page = slice_range bytes (page_bytes * page) (page_bytes * page + page_bytes)

-- a page that a memory has was written since the last settle
abbrev pub is_written : List Bool → ℕ → Bool
is_written flags page = slice_index_or flags page true

-- a page without flag is as it was at the last settle
pub record AreKept (bytes settled : List ℕ) (flags : List Bool) : Type 0 where
  pub same : (page : ℕ) → is_written flags page ≡ false → page_of bytes page ≡ page_of settled page

-- the pages from one up to another were not written, and are as they were at the last settle
pub record AreUnwritten (bytes settled : List ℕ) (flags : List Bool) (from end : ℕ) : Type 0 where
  pub unwritten : (page : ℕ) → from ≤ page → page < end → is_written flags page ≡ false
  pub same : (page : ℕ) → from ≤ page → page < end → page_of bytes page ≡ page_of settled page

-- what is true of each memory: it has 1 to 16384 whole pages, and what wasn't written is kept
pub record IsPaged (m : Paged) : Type 0 where
  pub whole : length m.bytes ≡ page_bytes * length m.written
  pub least : 1 ≤ length m.written
  pub most : length m.written ≤ most_pages
  pub settled : length m.settled ≡ length m.bytes
  pub kept : AreKept m.bytes m.settled m.written

-- the flags with those from one page up to another set
abbrev pub flagged : List Bool → ℕ → ℕ → List Bool
flagged flags from end = take from flags ++ (replicate (end - from) true ++ drop end flags)

-- the page that follows those that n bytes from a place on lie in; no bytes lie in none
abbrev pub end_page : ℕ → ℕ → ℕ
end_page at n = if n == 0 then at / page_bytes else (at + n - 1) / page_bytes + 1

-- the flags after n bytes from a place on were written
abbrev pub marked : List Bool → ℕ → ℕ → List Bool
marked flags at n = flagged flags (at / page_bytes) (end_page at n)

-- how many pages were written
abbrev pub written_pages : List Bool → ℕ
written_pages flags = count_by (λ flag. flag) flags

-- a memory after more pages were written: each page that wasn't before is copied once
abbrev pub with_flags : Paged → List Bool → Paged
with_flags m flags = record m { written = flags; copies = (m.copies + (written_pages flags - written_pages m.written)) % 2 ^ 64 }

-- a memory after n bytes from a place on were written, so that its bytes are these
abbrev pub with_written : Paged → ℕ → ℕ → List ℕ → Paged
with_written m at n bytes = record (with_flags m (marked m.written at n)) { bytes = bytes }

-- a memory at boot: the image's bytes from the first place on, all else 0, and no page written
abbrev pub boot_bytes : ℕ → List ℕ → List ℕ
boot_bytes pages image = image ++ replicate (page_bytes * pages - length image) 0

-- a memory that was just settled, after so many page copies
abbrev pub settled_at : List ℕ → ℕ → ℕ → Paged
settled_at bytes pages copies = record { bytes = bytes; settled = bytes; written = replicate pages false; copies = copies }
