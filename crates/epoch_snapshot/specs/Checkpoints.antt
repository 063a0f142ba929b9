-- What a checkpoint states of a machine, and of what its guest sent.
use Rattle.std.specs.Prelude.{◌≡◌, ◌≢◌, ℕ, ◌^◌, ◌<◌, ◌≤◌, IsTrue, not, List, [], length, map, All, count_ones, Bool, ◌&&◌, ◌==◌}
use Rattle.std.specs.List.{sum_by}
use Rattle.guest_rules.specs.Dirty.{Rises}
use Rattle.guest_rules.specs.declared.shapes.Shape.{Shape}
use Rattle.guest_rules.specs.declared.machine_state.MachineState.{MachineState}
use Rattle.guest_rules.specs.MachineStates.{IsMachineState}
use Rattle.epoch_snapshot.specs.declared.changes.PageChange.{PageChange}
use Rattle.epoch_snapshot.specs.declared.changes.SectorChange.{SectorChange}
use Rattle.net_device.specs.Frames.{IsFrame}
use Rattle.arrayvec.specs.ArrayVec.{ArrayVec}
use Rattle.epoch_snapshot.specs.Blocks.{is_zero}
use Rattle.epoch_snapshot.specs.Limits.{most_old_pages}

-- the version of the form that it is written in; the machine's shape, the pair's generation and the checkpoint's number in it, where 0 is
-- a full one; the machine's state; which blocks of which pages change, and these blocks, the old XOR the new, page by page and in each from
-- the lowest on; the new bytes of the sectors that change; and the frames that the guest sent since the checkpoint before, in order
pub record Change : Type 0 where
  pub version : ℕ
  pub shape : Shape
  pub generation : ℕ
  pub number : ℕ
  pub state : MachineState
  pub pages : List PageChange
  pub blocks : List (List ℕ)
  pub sectors : List SectorChange
  pub frames : List (ArrayVec ℕ)

abbrev pub change_of : ℕ → Shape → ℕ → ℕ → MachineState → List PageChange → List (List ℕ) → List SectorChange → List (ArrayVec ℕ) → Change
change_of version shape generation number state pages blocks sectors frames = record {
  version = version;
  shape = shape;
  generation = generation;
  number = number;
  state = state;
  pages = pages;
  blocks = blocks;
  sectors = sectors;
  frames = frames;
}

-- how many blocks pages change
abbrev pub block_count : List PageChange → ℕ
block_count pages = sum_by (λ p. count_ones p.mask) pages

-- what is true of each checkpoint, so that one change has one of them. Numbers stay below 2^62, as in all of the pair's protocol. As many
-- frames as an outbox holds belong to a delta of version 2; version 1 has none, and a full checkpoint stands for no epoch. Version 1
-- speaks of no more pages than there could be while it was written
pub record IsCanonical (c : Change) : Type 0 where
  pub first_version : 1 ≤ c.version
  pub last_version : c.version ≤ 2
  pub first_generation : 1 ≤ c.generation
  pub last_generation : c.generation < 2 ^ 62
  pub last_number : c.number < 2 ^ 62
  pub state : IsMachineState c.state
  pub pages : Rises 0 c.shape.pages (map (λ p. p.page) c.pages)
  pub masks : All (λ p. p.mask ≢ 0) c.pages
  pub block_count : length c.blocks ≡ block_count c.pages
  pub blocks : All (λ b. IsTrue (not (is_zero b))) c.blocks
  pub sectors : Rises 0 c.shape.sectors (map (λ s. s.sector) c.sectors)
  pub full_sectors : c.number ≡ 0 → All (λ s. IsTrue (not (is_zero s.bytes))) c.sectors
  pub frames : All IsFrame c.frames
  pub frame_count : length c.frames ≤ 256
  pub old_frames : c.version ≡ 1 → c.frames ≡ []
  pub old_pages : c.version ≡ 1 → c.shape.pages ≤ most_old_pages
  pub full_frames : c.number ≡ 0 → c.frames ≡ []

-- a delta of version 1 carries no frames, so what its guest sent could never be said. A full one stands for no epoch
abbrev pub is_old_delta : Change → Bool
is_old_delta c = c.version == 1 && not (c.number == 0)
