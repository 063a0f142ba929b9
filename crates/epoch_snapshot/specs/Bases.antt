-- What checkpoints are cut over, and what a cut records.
use Rattle.std.specs.Prelude.{◌≡◌, ℕ, ◌*◌, ◌<◌, false, List, [], length, replicate}
use Rattle.guest_rules.specs.Dirty.{is_in}
use Rattle.guest_rules.specs.Guest.{Guest, State, sector_count}
use Rattle.guest_rules.specs.MachineStates.{state_of}
use Rattle.guest_rules.specs.Limits.{page_bytes}
use Rattle.arrayvec.specs.ArrayVec.{ArrayVec}
use Rattle.epoch_snapshot.specs.Checkpoints.{Change}
use Rattle.epoch_snapshot.specs.Cuts.{sector_of, changed_pages, changed_blocks, changed_sectors, used_sectors}

-- a checkpoint of a machine, of version 2, records exactly the pages and blocks that differ from an old memory, exactly these sectors, and
-- exactly these frames, in order; g is its generation and n its number
pub record IsCheckpointOver (old : List ℕ) (listed : List ℕ) (sent : List (ArrayVec ℕ)) (m : State) (g n : ℕ) (c : Change) : Type 0 where
  pub version : c.version ≡ 2
  pub pages_size : length m.guest.ram ≡ page_bytes * c.shape.pages
  pub sectors_size : length m.guest.sectors ≡ 512 * c.shape.sectors
  pub generation : c.generation ≡ g
  pub number : c.number ≡ n
  pub state : c.state ≡ state_of m.guest
  pub pages : c.pages ≡ changed_pages old m.guest.ram c.shape.pages
  pub blocks : c.blocks ≡ changed_blocks old m.guest.ram c.pages
  pub sectors : c.sectors ≡ changed_sectors m.guest.sectors listed
  pub frames : c.frames ≡ sent

-- a full checkpoint of a machine, of this generation: all of it that isn't zero
abbrev pub IsFullCut : State → ℕ → Change → Type 0
IsFullCut m g c = IsCheckpointOver (replicate (length m.guest.ram) 0) (used_sectors m.guest.sectors (sector_count m.guest.sectors)) [] m g 0 c

-- a guest that a machine's delta stands over: its memory is the machine's at the last settle, and its disk has as many bytes as
-- the machine's, and the same ones at each sector that isn't listed as written
pub record IsBase (m : State) (base : Guest) : Type 0 where
  pub ram : base.ram ≡ m.settled
  pub size : length base.sectors ≡ length m.guest.sectors
  pub sectors : (i : ℕ) → i < sector_count m.guest.sectors → is_in i m.dirty ≡ false →
      sector_of base.sectors i ≡ sector_of m.guest.sectors i
