-- What a memory stores: a page that was written since the last settle has a copy of what it was then among the originals, which stand in
-- the order of first writes. Each other page is its own original.
use Rattle.std.specs.Prelude.{◌≡◌, ℕ, ◌+◌, ◌*◌, ◌/◌, ◌%◌, ◌^◌, ◌<◌, ◌≤◌, Bool, true, false, if◌then◌else◌, List, length, map}
use Rattle.std.specs.Prelude.{slice_index, slice_index_or, All, Contains}
use Rattle.std.specs.List.{range_with_len}
use Rattle.paged_memory.specs.Pages.{Paged, is_written, written_pages}
use Rattle.paged_memory.specs.Limits.{page_bytes, most_pages}

-- a byte of memory as it was when its page was kept, where the page's original is the one with this number
abbrev pub original_byte : List ℕ → ℕ → ℕ → ℕ
original_byte originals place i = slice_index originals (page_bytes * place + i % page_bytes)

-- the bytes at the last settle; for each written page the places have the number of its original
unfoldable pub settled_bytes : List ℕ → List ℕ → List Bool → List ℕ → List ℕ
settled_bytes bytes originals written places =
    map
    (λ i. if is_written written (i / page_bytes)
    then original_byte originals (slice_index places (i / page_bytes)) i
    else slice_index bytes i)
    (range_with_len 0 (length bytes))

-- the memory that contracts see
abbrev pub seen : List ℕ → List ℕ → List Bool → List ℕ → ℕ → Paged
seen bytes originals written places copies =
    record { bytes = bytes; settled = settled_bytes bytes originals written places; written = written; copies = copies }

-- a page may have a byte that isn't 0: its flag says that the image or a later call put bytes into it
abbrev pub is_touched : List Bool → ℕ → Bool
is_touched flags page = slice_index_or flags page true

-- into a page without that flag nothing was put since boot: it doesn't count as written, and each of its bytes is 0
pub record AreUntouched (bytes : List ℕ) (written touched : List Bool) : Type 0 where
  pub unwritten : (page : ℕ) → is_touched touched page ≡ false → is_written written page ≡ false
  pub zero : (i : ℕ) → is_touched touched (i / page_bytes) ≡ false → slice_index bytes i ≡ 0

-- what is true of what is stored: 1 to 16384 whole pages, a list of exactly the written ones, as many originals, each written page's
-- place among them, room in the list and in the originals for every page, and a second flag for each page, without which it has only
-- zero bytes
pub record IsStored (bytes originals : List ℕ) (written touched : List Bool) (places dirty : List ℕ) (space capacity copies : ℕ) : Type 0
  where
    pub whole : length bytes ≡ page_bytes * length written
    pub least : 1 ≤ length written
    pub most : length written ≤ most_pages
    pub kept : length originals ≡ page_bytes * length dirty
    pub numbered : length places ≡ length written
    pub placed : (page : ℕ) → page < length written → is_written written page ≡ true → slice_index places page < length dirty
    pub listed : (page : ℕ) → page < length written → is_written written page ≡ true → Contains dirty page
    pub inside : All (λ page. page < length written) dirty
    pub only : All (λ page. is_written written page ≡ true) dirty
    pub count : length dirty ≡ written_pages written
    pub region : page_bytes * length written ≤ space
    pub room : length written ≤ capacity
    pub small : copies < 2 ^ 64
    pub flagged : length touched ≡ length written
    pub untouched : AreUntouched bytes written touched
