-- The text of a checkpoint, of its version: its units in turn. The head's numbers by the table of the head; the count of the page records,
-- and each with its index, its mask and its blocks; the count of the sector records, and each with its index and its bytes; and in version
-- 2 the count of the frames, and each with its length and its bytes.
use Rattle.std.specs.Prelude.{ℕ, suc, zero, ◌+◌, ◌==◌, List, [], ◌∷◌, ◌++◌, length, take, drop, if◌then◌else◌, slice_index, count_ones}
use Rattle.virtqueue.specs.declared.rings.Queue.{Queue}
use Rattle.virtio_mmio.specs.declared.states.DeviceState.{DeviceState}
use Rattle.virtio_mmio.specs.States.{queue_at}
use Rattle.epoch_snapshot.specs.declared.changes.PageChange.{PageChange}
use Rattle.epoch_snapshot.specs.declared.changes.SectorChange.{SectorChange}
use Rattle.epoch_snapshot.specs.Checkpoints.{Change}
use Rattle.arrayvec.specs.ArrayVec.{ArrayVec}
use Rattle.checkpoint_stream.specs.declared.rules.Row.{Row}
use Rattle.checkpoint_stream.specs.declared.rules.Width.TheVariants.{Four, Eight}
use Rattle.checkpoint_stream.specs.HeadTable.{head_table, bytes_of}

-- a queue's numbers, and a device's, before those that follow
abbrev pub queue_numbers : Queue → List ℕ → List ℕ
queue_numbers q rest =
    q.num ∷ (if q.ready then 1 else 0) ∷ q.desc ∷ q.driver ∷ q.device ∷ q.next_available ∷ q.next_used ∷ rest

abbrev pub device_numbers : DeviceState → List ℕ → List ℕ
device_numbers d rest =
    d.status ∷ d.device_features_sel ∷ d.driver_features_sel ∷ d.driver_features ∷ d.queue_sel ∷ d.interrupt_status ∷ rest

-- so many numbers of a list, from an index on, before those that follow
abbrev pub numbers_from : List ℕ → ℕ → ℕ → List ℕ → List ℕ
numbers_from xs i zero rest = rest
numbers_from xs i (suc n) rest = slice_index xs i ∷ numbers_from xs (i + 1) n rest

-- the first number, by the version: "RMC1" or "RMC2"
abbrev pub magic : ℕ → ℕ
magic version = if version == 1 then 0x31434d52 else 0x32434d52

-- the numbers of the head, in the order of its table
unfoldable pub head_numbers : Change → List ℕ
head_numbers c =
    magic c.version ∷ c.shape.pages ∷ c.shape.sectors ∷ c.generation ∷ c.number ∷ c.state.steps
    ∷ numbers_from c.state.registers 0 31 (c.state.pc
    ∷ c.state.csrs.mstatus ∷ c.state.csrs.mie ∷ c.state.csrs.mtvec ∷ c.state.csrs.mscratch
    ∷ c.state.csrs.mepc ∷ c.state.csrs.mcause ∷ c.state.csrs.mtval
    ∷ c.state.msip ∷ c.state.mtimecmp
    ∷ device_numbers c.state.net (queue_numbers (queue_at c.state.net 0) (queue_numbers (queue_at c.state.net 1)
    (device_numbers c.state.disk (queue_numbers (queue_at c.state.disk 0) [])))))

-- numbers, each as wide as its row says
unfoldable pub number_units : List Row → List ℕ → List (List ℕ)
number_units [] ns = []
number_units (row ∷ rows) [] = []
number_units (row ∷ rows) (n ∷ ns) = bytes_of row.width n ∷ number_units rows ns

-- a page record, with the blocks that its mask names
abbrev pub page_record : PageChange → List (List ℕ) → List (List ℕ)
page_record p blocks = bytes_of Four p.page ∷ bytes_of Eight p.mask ∷ blocks

-- the page records: each takes as many blocks as its mask has ones
unfoldable pub page_units : List PageChange → List (List ℕ) → List (List ℕ)
page_units [] blocks = []
page_units (p ∷ ps) blocks = page_record p (take (count_ones p.mask) blocks) ++ page_units ps (drop (count_ones p.mask) blocks)

unfoldable pub sector_units : List SectorChange → List (List ℕ)
sector_units [] = []
sector_units (s ∷ ss) = bytes_of Four s.sector ∷ s.bytes ∷ sector_units ss

unfoldable pub frame_units : List (ArrayVec ℕ) → List (List ℕ)
frame_units [] = []
frame_units (f ∷ fs) = bytes_of Four (length f.items) ∷ f.items ∷ frame_units fs

-- what follows the sector records
abbrev pub units_of_frames : ℕ → List (ArrayVec ℕ) → List (List ℕ)
units_of_frames version frames = if version == 1 then [] else bytes_of Four (length frames) ∷ frame_units frames

-- all units of a checkpoint
unfoldable pub units : Change → List (List ℕ)
units c =
    number_units head_table (head_numbers c)
    ++ ((bytes_of Four (length c.pages) ∷ page_units c.pages c.blocks)
    ++ ((bytes_of Four (length c.sectors) ∷ sector_units c.sectors) ++ units_of_frames c.version c.frames))

-- lists one after another
unfoldable pub joined : List (List ℕ) → List ℕ
joined [] = []
joined (u ∷ us) = u ++ joined us

-- the one spelling of a checkpoint
unfoldable pub text : Change → List ℕ
text c = joined (units c)
