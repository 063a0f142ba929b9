-- Reading a checkpoint unit by unit: what was read, which unit comes next, and what each unit that was taken whole makes of it.
use Rattle.std.specs.Prelude.{ℕ, zero, suc, ◌+◌, ◌-◌, ◌%◌, ◌^◌, ◌==◌, Bool, true, false, ◌&&◌, if◌then◌else◌, nat_le, nat_lt}
use Rattle.std.specs.Prelude.{List, [], ◌∷◌, ◌++◌, length, slice_index, count_ones, Option, Some, None}
use Rattle.guest_rules.specs.declared.shapes.Shape.{Shape}
use Rattle.epoch_snapshot.specs.declared.changes.PageChange.{PageChange}
use Rattle.epoch_snapshot.specs.declared.changes.SectorChange.{SectorChange}
use Rattle.epoch_snapshot.specs.Blocks.{is_zero}
use Rattle.checkpoint_stream.specs.declared.rules.Row.{Row}
use Rattle.checkpoint_stream.specs.declared.rules.Width.TheVariants.{Four, Eight}
use Rattle.checkpoint_stream.specs.declared.place.Place.{Place}
use Rattle.checkpoint_stream.specs.declared.place.Place.TheVariants.{Head, PageCount, PageIndex, PageMask, Block, SectorCount}
use Rattle.checkpoint_stream.specs.declared.place.Place.TheVariants.{SectorIndex, SectorBytes, FrameCount, FrameLength, FrameBytes}
use Rattle.checkpoint_stream.specs.declared.place.Place.TheVariants.{Whole, Failed}
use Rattle.arrayvec.specs.ArrayVec.{ArrayVec}
use Rattle.checkpoint_stream.specs.HeadTable.{passes, number_spelled, bytes_in, row_at}

-- the reader's shape; how many bytes its whole units had since it was made, modulo 2^64; the unit that comes next; and of the
-- checkpoint that is being read how many numbers of the head are known, these numbers with the last of them, the pages, blocks,
-- sectors and frames, and the bytes of the unit that has begun
pub record Reading : Type 0 where
  pub shape : Shape
  pub offset : ℕ
  pub place : Place
  pub known : ℕ
  pub head : List ℕ
  pub before : ℕ
  pub pages : List PageChange
  pub blocks : List (List ℕ)
  pub sectors : List SectorChange
  pub frames : List (ArrayVec ℕ)
  pub partial : List ℕ

-- at the first byte of a checkpoint
abbrev pub begun : Shape → ℕ → Reading
begun shape offset = record {
  shape = shape;
  offset = offset;
  place = Head;
  known = 0;
  head = [];
  before = 0;
  pages = [];
  blocks = [];
  sectors = [];
  frames = [];
  partial = [];
}

-- nothing more is taken: a whole checkpoint stands, or a unit broke its rule
abbrev pub is_closed : Place → Bool
is_closed Whole = true
is_closed (Failed at) = true
is_closed _ = false

abbrev pub is_whole : Place → Bool
is_whole Whole = true
is_whole _ = false

-- the offset of the unit that broke its rule
abbrev pub failure_at : Place → Option ℕ
failure_at (Failed at) = Some at
failure_at _ = None

-- how many bytes the unit has that comes next. Where none comes, 1 stands, so that what has begun is always less than a unit
abbrev pub width_at : Place → ℕ → ℕ
width_at Head known = bytes_in (row_at known).width
width_at (PageMask left page) known = 8
width_at (Block left page more) known = 64
width_at (SectorBytes left sector) known = 512
width_at (FrameBytes left len) known = len
width_at Whole known = 1
width_at (Failed at) known = 1
width_at _ known = 4

abbrev pub width_of : Reading → ℕ
width_of r = width_at r.place r.known

-- after a unit of this many bytes, which keeps its rule
abbrev pub moved : Reading → ℕ → Place → Reading
moved r width place = record r { offset = (r.offset + width) % 2 ^ 64; place = place; partial = [] }

-- after a unit that breaks its rule
abbrev pub failed : Reading → Reading
failed r = record r { place = Failed r.offset; partial = [] }

-- what comes where this many page records, sector records or frames are still due; where no sector records are, the place that follows them
abbrev pub pages_due : ℕ → ℕ → Place
pages_due zero from = SectorCount
pages_due (suc left) from = PageIndex left from

abbrev pub sectors_due : Place → ℕ → ℕ → Place
sectors_due end zero from = end
sectors_due end (suc left) from = SectorIndex left from

abbrev pub frames_due : ℕ → Place
frames_due zero = Whole
frames_due (suc left) = FrameLength left

abbrev pub after_block : ℕ → ℕ → ℕ → Place
after_block left page zero = pages_due left (page + 1)
after_block left page (suc more) = Block left page more

-- what comes after so many numbers of the head
abbrev pub after_number : ℕ → Place
after_number known = if known == 80 then PageCount else Head

-- the number of the checkpoint, the head's fifth, is 0
abbrev pub is_full : Reading → Bool
is_full r = nat_lt 4 r.known && slice_index r.head 4 == 0

-- the checkpoint is of version 2: the head's first number is "RMC2"
abbrev pub has_frames : Reading → Bool
has_frames r = nat_lt 0 r.known && slice_index r.head 0 == 0x32434d52

-- what comes after the sector records: nothing in version 1, the frames in version 2
abbrev pub after_sectors : Reading → Place
after_sectors r = if has_frames r then FrameCount else Whole

-- how many frames there may be: as many as an outbox holds, and none in a full checkpoint
abbrev pub most_frames : Reading → ℕ
most_frames r = if is_full r then 0 else 256

-- what each unit makes of the reading, by the place where it stands, where it keeps its rule and where it doesn't
unfoldable pub kept_number : Bool → Reading → Row → ℕ → Reading
kept_number false r row n = failed r
kept_number true r row n =
    moved (record r { known = r.known + 1; head = r.head ++ n ∷ []; before = n }) (bytes_in row.width) (after_number (r.known + 1))

abbrev pub number_judged : Reading → Row → ℕ → Reading
number_judged r row n = kept_number (passes r.shape row.rule r.before n) r row n

unfoldable pub moved_if : Bool → Reading → Place → Reading
moved_if false r place = failed r
moved_if true r place = moved r 4 place

abbrev pub page_count_judged : Reading → ℕ → Reading
page_count_judged r n = moved_if (nat_le n r.shape.pages) r (pages_due n 0)

abbrev pub page_index_judged : Reading → ℕ → ℕ → ℕ → Reading
page_index_judged r left from n = moved_if (nat_le from n && nat_lt n r.shape.pages) r (PageMask left n)

unfoldable pub kept_mask : Bool → Reading → ℕ → ℕ → ℕ → Reading
kept_mask true r left page mask = failed r
kept_mask false r left page mask =
    moved (record r { pages = r.pages ++ (record { page = page; mask = mask }) ∷ [] }) 8 (Block left page (count_ones mask - 1))

abbrev pub mask_judged : Reading → ℕ → ℕ → ℕ → Reading
mask_judged r left page mask = kept_mask (mask == 0) r left page mask

unfoldable pub kept_block : Bool → Reading → ℕ → ℕ → ℕ → List ℕ → Reading
kept_block true r left page more block = failed r
kept_block false r left page more block = moved (record r { blocks = r.blocks ++ block ∷ [] }) 64 (after_block left page more)

abbrev pub block_judged : Reading → ℕ → ℕ → ℕ → List ℕ → Reading
block_judged r left page more block = kept_block (is_zero block) r left page more block

abbrev pub sector_count_judged : Reading → ℕ → Reading
sector_count_judged r n = moved_if (nat_le n r.shape.sectors) r (sectors_due (after_sectors r) n 0)

abbrev pub sector_index_judged : Reading → ℕ → ℕ → ℕ → Reading
sector_index_judged r left from n = moved_if (nat_le from n && nat_lt n r.shape.sectors) r (SectorBytes left n)

unfoldable pub kept_sector : Bool → Reading → ℕ → ℕ → List ℕ → Reading
kept_sector true r left sector bytes = failed r
kept_sector false r left sector bytes =
    moved (record r { sectors = r.sectors ++ (record { sector = sector; bytes = bytes }) ∷ [] }) 512
    (sectors_due (after_sectors r) left (sector + 1))

abbrev pub sector_judged : Reading → ℕ → ℕ → List ℕ → Reading
sector_judged r left sector bytes = kept_sector (is_full r && is_zero bytes) r left sector bytes

abbrev pub frame_count_judged : Reading → ℕ → Reading
frame_count_judged r n = moved_if (nat_le n (most_frames r)) r (frames_due n)

-- a frame has 14 to 1514 bytes
abbrev pub frame_length_judged : Reading → ℕ → ℕ → Reading
frame_length_judged r left n = moved_if (nat_le 14 n && nat_le n 1514) r (FrameBytes left n)

-- whatever they are
unfoldable pub frame_judged : Reading → ℕ → ℕ → List ℕ → Reading
frame_judged r left len frame = moved (record r { frames = r.frames ++ (record { items = frame }) ∷ [] }) len (frames_due left)

abbrev pub judged_at : Place → Reading → List ℕ → Reading
judged_at Head r unit =
    number_judged r (row_at r.known) (number_spelled (row_at r.known).width unit)
judged_at PageCount r unit = page_count_judged r (number_spelled Four unit)
judged_at (PageIndex left from) r unit = page_index_judged r left from (number_spelled Four unit)
judged_at (PageMask left page) r unit = mask_judged r left page (number_spelled Eight unit)
judged_at (Block left page more) r unit = block_judged r left page more unit
judged_at SectorCount r unit = sector_count_judged r (number_spelled Four unit)
judged_at (SectorIndex left from) r unit = sector_index_judged r left from (number_spelled Four unit)
judged_at (SectorBytes left sector) r unit = sector_judged r left sector unit
judged_at FrameCount r unit = frame_count_judged r (number_spelled Four unit)
judged_at (FrameLength left) r unit = frame_length_judged r left (number_spelled Four unit)
judged_at (FrameBytes left len) r unit = frame_judged r left len unit
judged_at Whole r unit = r
judged_at (Failed at) r unit = r

-- the reading after the unit that comes next
unfoldable pub judged : Reading → List ℕ → Reading
judged r unit = judged_at r.place r unit

-- the reading after one more byte: where that completes the unit, the unit is judged
unfoldable pub fed_byte : Reading → ℕ → Reading
fed_byte r b =
    if is_closed r.place
    then r
    else (if length r.partial + 1 == width_of r
    then judged r (r.partial ++ b ∷ [])
    else record r { partial = r.partial ++ b ∷ [] })

-- the reading after these bytes
unfoldable pub fed : Reading → List ℕ → Reading
fed r [] = r
fed r (b ∷ bs) = fed (fed_byte r b) bs

-- how many of these bytes are taken: all, or those up to the one with which nothing more is
unfoldable pub taken : Reading → List ℕ → ℕ
taken r [] = 0
taken r (b ∷ bs) = if is_closed r.place then 0 else 1 + taken (fed_byte r b) bs
