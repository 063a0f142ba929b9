-- What a checkpoint makes of a guest.
use Rattle.std.specs.Prelude.{ℕ, ◌*◌, ◌==◌, if◌then◌else◌, List, [], ◌∷◌, replicate}
use Rattle.guest_rules.specs.Guest.{Guest}
use Rattle.guest_rules.specs.Limits.{page_bytes}
use Rattle.guest_rules.specs.MachineStates.{with_state}
use Rattle.epoch_snapshot.specs.declared.changes.SectorChange.{SectorChange}
use Rattle.guest_rules.specs.Bytes.{with_bytes, with_xored}
use Rattle.epoch_snapshot.specs.Blocks.{block_numbers}
use Rattle.epoch_snapshot.specs.Checkpoints.{Change}

-- memory with blocks XORed into those of these numbers, one after another
unfoldable pub with_blocks : List ℕ → List ℕ → List (List ℕ) → List ℕ
with_blocks ram [] blocks = ram
with_blocks ram (n ∷ ns) [] = ram
with_blocks ram (n ∷ ns) (b ∷ bs) = with_blocks (with_xored ram (64 * n) b) ns bs

-- a disk with these sectors replaced, one after another
unfoldable pub with_sectors : List ℕ → List SectorChange → List ℕ
with_sectors bytes [] = bytes
with_sectors bytes (s ∷ ss) = with_sectors (with_bytes bytes (512 * s.sector) s.bytes) ss

-- the memory and the disk that a checkpoint changes: the base's, or all zero where it is a full one
abbrev pub base_ram : Change → List ℕ → List ℕ
base_ram c ram = if c.number == 0 then replicate (page_bytes * c.shape.pages) 0 else ram

abbrev pub base_sectors : Change → List ℕ → List ℕ
base_sectors c sectors = if c.number == 0 then replicate (512 * c.shape.sectors) 0 else sectors

-- the guest with the checkpoint's state, over the base's memory with each block XORed in and its sectors with the recorded ones
-- replaced (Remus, 2008: a checkpoint of the buffered changes is applied whole)
unfoldable pub image_of : Change → Guest → Guest
image_of c base = with_state (record base {
  ram = with_blocks (base_ram c base.ram) (block_numbers c.pages) c.blocks;
  sectors = with_sectors (base_sectors c base.sectors) c.sectors;
}) c.state
