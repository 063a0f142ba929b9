-- What is true of each reading: what was read so far is the front of a canonical checkpoint.
use Rattle.std.specs.Prelude.{◌≡◌, ◌≢◌, ℕ, ◌+◌, ◌%◌, ◌^◌, ◌<◌, ◌≤◌, ◌==◌, if◌then◌else◌, true, false, IsTrue, not, List, [], ◌∷◌, length}
use Rattle.std.specs.Prelude.{map, All, slice_index, Option, None, Some}
use Rattle.guest_rules.specs.Dirty.{Rises}
use Rattle.guest_rules.specs.declared.shapes.Shape.{Shape}
use Rattle.guest_rules.specs.declared.machine_state.MachineState.{MachineState}
use Rattle.virtqueue.specs.declared.rings.Queue.{Queue}
use Rattle.virtqueue.specs.Queues.{boot_queue}
use Rattle.virtio_mmio.specs.declared.states.DeviceState.{DeviceState}
use Rattle.epoch_snapshot.specs.Blocks.{is_zero}
use Rattle.epoch_snapshot.specs.Checkpoints.{Change, change_of, block_count}
use Rattle.checkpoint_stream.specs.declared.rules.Row.{Row}
use Rattle.checkpoint_stream.specs.declared.place.Place.{Place}
use Rattle.checkpoint_stream.specs.declared.place.Place.TheVariants.{Head, PageCount, PageIndex, PageMask, Block, SectorCount}
use Rattle.checkpoint_stream.specs.declared.place.Place.TheVariants.{SectorIndex, SectorBytes, FrameCount, FrameLength, FrameBytes}
use Rattle.checkpoint_stream.specs.declared.place.Place.TheVariants.{Whole, Failed}
use Rattle.net_device.specs.Frames.{IsFrame}
use Rattle.checkpoint_stream.specs.HeadTable.{head_table, passes}
use Rattle.checkpoint_stream.specs.Text.{numbers_from}
use Rattle.checkpoint_stream.specs.Readings.{Reading, is_whole, is_full, has_frames}

-- a queue and a device, by the index of their first number in the head
abbrev pub queue_from : List ℕ → ℕ → Queue
queue_from xs i = record {
  num = slice_index xs i % 2 ^ 32;
  ready = slice_index xs (i + 1) == 1;
  desc = slice_index xs (i + 2);
  driver = slice_index xs (i + 3);
  device = slice_index xs (i + 4);
  next_available = slice_index xs (i + 5) % 2 ^ 16;
  next_used = slice_index xs (i + 6) % 2 ^ 16;
}

abbrev pub device_from : List ℕ → ℕ → List Queue → DeviceState
device_from xs i queues = record {
  status = slice_index xs i % 2 ^ 32;
  device_features_sel = slice_index xs (i + 1) % 2 ^ 32;
  driver_features_sel = slice_index xs (i + 2) % 2 ^ 32;
  driver_features = slice_index xs (i + 3);
  queue_sel = slice_index xs (i + 4) % 2 ^ 32;
  interrupt_status = slice_index xs (i + 5) % 2 ^ 32;
  queues = queues;
}

-- the state that the head's numbers are
abbrev pub state_from : List ℕ → MachineState
state_from xs = record {
  steps = slice_index xs 5;
  registers = numbers_from xs 6 31 [];
  pc = slice_index xs 37;
  csrs = record {
    mstatus = slice_index xs 38;
    mie = slice_index xs 39;
    mtvec = slice_index xs 40;
    mscratch = slice_index xs 41;
    mepc = slice_index xs 42;
    mcause = slice_index xs 43;
    mtval = slice_index xs 44;
  };
  msip = slice_index xs 45 % 2 ^ 32;
  mtimecmp = slice_index xs 46;
  net = device_from xs 47 (queue_from xs 53 ∷ queue_from xs 60 ∷ []);
  disk = device_from xs 67 (queue_from xs 73 ∷ boot_queue ∷ []);
}

-- the version that the first number says
abbrev pub version_from : ℕ → ℕ
version_from magic = if magic == 0x32434d52 then 2 else 1

-- the checkpoint that was read
unfoldable pub change_in : Reading → Change
change_in r = change_of (version_from (slice_index r.head 0)) r.shape (slice_index r.head 3) (slice_index r.head 4) (state_from r.head)
    r.pages r.blocks r.sectors r.frames

-- the generation and the number of the checkpoint that stands whole, if one does
abbrev pub whole_name : Reading → Option (ℕ × ℕ)
whole_name r = if is_whole r.place then Some ((change_in r).generation, (change_in r).number) else None

-- the last of some numbers, or the one before them
abbrev pub last_after : ℕ → List ℕ → ℕ
last_after before [] = before
last_after before (n ∷ ns) = last_after n ns

-- each of some numbers keeps the rule of its row
abbrev pub AllPass : Shape → ℕ → List Row → List ℕ → Type 0
AllPass shape before rows [] = Unit {0}
AllPass shape before [] (n ∷ ns) = ⊥
AllPass shape before (row ∷ rows) (n ∷ ns) = IsTrue (passes shape row.rule before n) × AllPass shape n rows ns

pub record IsHead (r : Reading) : Type 0 where
  pub known : length r.head ≡ r.known
  pub rows : r.known ≤ 80
  pub passes : AllPass r.shape 0 head_table r.head
  pub last : r.before ≡ last_after 0 r.head

-- no record was read
pub record HasNoRecords (r : Reading) : Type 0 where
  pub pages : r.pages ≡ []
  pub blocks : r.blocks ≡ []
  pub sectors : r.sectors ≡ []

-- the records that were read, of pages and of sectors below these, where so many blocks are still due
pub record HasRecords (r : Reading) (page_limit due sector_limit : ℕ) : Type 0 where
  pub known : r.known ≡ 80
  pub pages : Rises 0 page_limit (map (λ p. p.page) r.pages)
  pub page_end : page_limit ≤ r.shape.pages
  pub masks : All (λ p. p.mask ≢ 0) r.pages
  pub count : length r.blocks + due ≡ block_count r.pages
  pub blocks : All (λ b. IsTrue (not (is_zero b))) r.blocks
  pub sectors : Rises 0 sector_limit (map (λ s. s.sector) r.sectors)
  pub sector_end : sector_limit ≤ r.shape.sectors
  pub full : slice_index r.head 4 ≡ 0 → All (λ s. IsTrue (not (is_zero s.bytes))) r.sectors

-- what it holds of records and of frames, also where a unit broke its rule
pub record HoldsFew (r : Reading) : Type 0 where
  pub pages : length r.pages ≤ r.shape.pages
  pub blocks : length r.blocks ≤ block_count r.pages
  pub sectors : length r.sectors ≤ r.shape.sectors
  pub frames : length r.frames ≤ 256
  pub each_frame : All IsFrame r.frames

-- what was read, by the unit that comes next
abbrev pub StandsAt : Place → Reading → Type 0
StandsAt Head r = (r.known < 80) × HasNoRecords r
StandsAt PageCount r = (r.known ≡ 80) × HasNoRecords r
StandsAt (PageIndex left from) r = HasRecords r from 0 0
StandsAt (PageMask left page) r = (page < r.shape.pages) × HasRecords r page 0 0
StandsAt (Block left page more) r = (page < r.shape.pages) × HasRecords r (page + 1) (more + 1) 0
StandsAt SectorCount r = HasRecords r r.shape.pages 0 0
StandsAt (SectorIndex left from) r = HasRecords r r.shape.pages 0 from
StandsAt (SectorBytes left sector) r = (sector < r.shape.sectors) × HasRecords r r.shape.pages 0 sector
StandsAt FrameCount r = HasRecords r r.shape.pages 0 r.shape.sectors
StandsAt (FrameLength left) r = HasRecords r r.shape.pages 0 r.shape.sectors
StandsAt (FrameBytes left len) r = HasRecords r r.shape.pages 0 r.shape.sectors
StandsAt Whole r = HasRecords r r.shape.pages 0 r.shape.sectors
StandsAt (Failed at) r = HoldsFew r

-- the frames that were read, where so many are still due
pub record HasFrames (r : Reading) (due : ℕ) : Type 0 where
  pub each : All IsFrame r.frames
  pub count : length r.frames + due ≤ 256
  pub full : is_full r ≡ true → length r.frames + due ≡ 0
  pub old : has_frames r ≡ false → length r.frames + due ≡ 0

-- by the unit that comes next
abbrev pub FramesAt : Place → Reading → Type 0
FramesAt FrameCount r = (has_frames r ≡ true) × (r.frames ≡ [])
FramesAt (FrameLength left) r = HasFrames r (left + 1)
FramesAt (FrameBytes left len) r = ((14 ≤ len) × (len ≤ 1514)) × HasFrames r (left + 1)
FramesAt Whole r = HasFrames r 0
FramesAt (Failed at) r = Unit {0}
FramesAt _ r = r.frames ≡ []

pub record IsSound (r : Reading) : Type 0 where
  pub head : IsHead r
  pub place : StandsAt r.place r
  pub frames : FramesAt r.place r
