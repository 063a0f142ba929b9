-- The text of a full checkpoint, of which a part is made, and the rest is made later from the memory that the machine had.
use Rattle.std.specs.Prelude.{◌≡◌, ◌≤◌, ◌<◌, ℕ, ◌+◌, ◌*◌, ◌/◌, List, [], ◌∷◌, ◌++◌, length, map, take, drop, replicate, count_ones, All}
use Rattle.std.specs.Prelude.{Option, None, Some, slice_index_or}
use Rattle.std.specs.List.{sum_by}
use Rattle.guest_rules.specs.Guest.{Guest, State, sector_count}
use Rattle.guest_rules.specs.Limits.{page_bytes}
use Rattle.guest_rules.specs.MachineStates.{state_of}
use Rattle.guest_rules.specs.Pages.{page_of}
use Rattle.guest_rules.specs.declared.shapes.Shape.{Shape}
use Rattle.epoch_snapshot.specs.declared.changes.PageChange.{PageChange}
use Rattle.epoch_snapshot.specs.Bases.{IsCheckpointOver}
use Rattle.epoch_snapshot.specs.Blocks.{block_in, set_blocks}
use Rattle.epoch_snapshot.specs.Checkpoints.{Change, change_of}
use Rattle.epoch_snapshot.specs.Cuts.{used_sectors}
use Rattle.epoch_snapshot.specs.Images.{image_of}
use Rattle.checkpoint_stream.specs.Bounds.{most_text}
use Rattle.checkpoint_stream.specs.HeadTable.{bytes_of}
use Rattle.checkpoint_stream.specs.ReadBack.{ReadsBack}
use Rattle.checkpoint_stream.specs.Text.{joined}
use Rattle.checkpoint_stream.specs.declared.rules.Width.TheVariants.{Four, Eight}
use Rattle.full_text.specs.UsedPages.{used_pages}

-- a memory of that size that is all zero, over which a full checkpoint is cut
abbrev pub zeros : List ℕ → List ℕ
zeros ram = replicate (length ram) 0

-- THE RECORD of a page of these bytes: its index, its mask, and the blocks that the mask names; and those of several, in turn, whose bytes a
-- function of the index gives
abbrev pub page_record : List ℕ → PageChange → List ℕ
page_record bytes p = bytes_of Four p.page ++ bytes_of Eight p.mask ++ joined (map (λ i. block_in bytes i) (set_blocks p.mask))

unfoldable pub page_records : (ℕ → List ℕ) → List PageChange → List ℕ
page_records bytes [] = []
page_records bytes (p ∷ ps) = page_record (bytes p.page) p ++ page_records bytes ps

-- how many bytes they have
abbrev pub record_size : PageChange → ℕ
record_size p = 12 + 64 * count_ones p.mask

-- none has more: 64 blocks of 64 bytes behind 12 bytes
abbrev pub most_record : ℕ
most_record = 4108

abbrev pub records_size : List PageChange → ℕ
records_size ps = sum_by record_size ps

-- each of the pages is one of a memory of so many bytes
abbrev pub AreIn : ℕ → List PageChange → Type 0
AreIn bytes ps = All (λ p. page_bytes * p.page + page_bytes ≤ bytes) ps

-- What a page has: what is kept of it, or, where nothing is, what stands in memory
abbrev pub kept_or : List ℕ → Option (List ℕ) → List ℕ
kept_or stands None = stands
kept_or stands (Some bytes) = bytes

abbrev pub page_at : List ℕ → List (Option (List ℕ)) → ℕ → List ℕ
page_at ram kept page = kept_or (page_of ram page) (slice_index_or kept page None)

-- it is the same of what a machine had at its last settle and of what it has now
abbrev pub IsSameIn : State → List (Option (List ℕ)) → ℕ → Type 0
IsSameIn m kept page = page_at m.guest.ram kept page ≡ page_at m.settled kept page

-- A TEXT IN THE MAKING: the bytes that are made, the pages whose records come next, in order, what is kept of pages by their indices, and what
-- stands behind the records
pub record Making : Type 0 where
  pub made : List ℕ
  pub pages : List PageChange
  pub kept : List (Option (List ℕ))
  pub tail : List ℕ

-- the whole text, over the memory that has what isn't kept, and how many bytes it has
abbrev pub whole : List ℕ → Making → List ℕ
whole ram f = f.made ++ (page_records (page_at ram f.kept) f.pages ++ f.tail)

abbrev pub size : Making → ℕ
size f = length f.made + (records_size f.pages + length f.tail)

-- what is left of it is the same of what a machine has now as of what it had at its last settle
abbrev pub IsSame : State → Making → Type 0
IsSame m f = whole m.guest.ram f ≡ whole m.settled f

-- so many bytes of it are made, or all
abbrev pub IsMadeTo : ℕ → Making → Type 0
IsMadeTo count f = length f.made < count → (f.pages ≡ []) × (f.tail ≡ [])

-- A TEXT WHOSE PAGES ARE SEARCHED FOR: the bytes in front of the pages' count, the pages that are found, of the first ones of how many, what is
-- kept of pages by their indices, and what stands behind the records
pub record Searching : Type 0 where
  pub head : List ℕ
  pub found : List PageChange
  pub looked : ℕ
  pub pages : ℕ
  pub kept : List (Option (List ℕ))
  pub tail : List ℕ

-- over the memory that has what isn't kept: the text once its pages are found; what is found is what there is to find; and the most bytes that
-- it has
abbrev pub found_of : List ℕ → Searching → Making
found_of ram s =
    let pages = used_pages (page_at ram s.kept) s.pages in
    record { made = s.head ++ bytes_of Four (length pages); pages = pages; kept = s.kept; tail = s.tail }

pub record SearchFits (ram : List ℕ) (s : Searching) : Type 0 where
  pub found : s.found ≡ used_pages (page_at ram s.kept) s.looked
  pub size : length ram ≡ page_bytes * s.pages

abbrev pub most : Searching → ℕ
most s = length s.head + 4 + most_record * s.pages + length s.tail

-- THE MOST BYTES that the text of a full checkpoint of this memory may have, for one who knows nothing of the memory but its size: the text's
-- own, with the longest record for each page in place of the records that it has
abbrev pub IsMost : ℕ → List ℕ → List ℕ → Type 0
IsMost bytes text ram =
    let pages = length ram / page_bytes in
    (length text ≤ bytes) × (bytes + records_size (used_pages (page_at ram []) pages) ≡ length text + most_record * pages)

-- a text that reads back as the full checkpoint of a machine, number 0 of this generation, which makes its guest of any
pub record IsFullText (m : State) (generation : ℕ) (text : List ℕ) : Type 0 where
  pub change : Change
  pub cut : IsCheckpointOver (zeros m.guest.ram) (used_sectors m.guest.sectors (sector_count m.guest.sectors)) [] m generation 0 change
  pub image : (base : Guest) → image_of change base ≡ m.guest
  pub reads : ReadsBack change text
  pub short : length text ≤ most_text change.shape

-- a full checkpoint of a guest, but without its memory and its disk: it has the head of the whole one
abbrev pub blank : Shape → Guest → ℕ → Change
blank shape g generation = change_of 2 shape generation 0 (state_of g) [] [] [] []

-- of a text the bytes from there on, so many or as many as there are
abbrev pub part_of : ℕ → ℕ → List ℕ → List ℕ
part_of from count text = take count (drop from text)
