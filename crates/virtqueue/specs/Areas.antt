use Rattle.std.specs.Prelude.{ℕ, ◌+◌, ◌-◌, ◌*◌, ◌%◌, ◌^◌, ◌≤◌, ◌<◌, Bool, ◌==◌, ◌&&◌, if◌then◌else◌, nat_lt, List, length, Result, Ok, Err}
use Rattle.virtqueue.specs.declared.rings.Queue.{Queue}
use Rattle.virtqueue.specs.declared.broken.Broken.{Broken}
use Rattle.virtqueue.specs.declared.broken.Broken.TheVariants.{Misaligned, AreaOutside, TooMany}
use Rattle.virtqueue.specs.Limits.{ram_start, most_descriptors}
use Rattle.virtqueue.specs.Memory.{le16, is_inside, place_of}

-- the alignments of virtio 1.1, 2.6: descriptor table 16, available ring 2, used ring 4
abbrev pub is_aligned : Queue → Bool
is_aligned q = q.desc % 16 == 0 && q.driver % 2 == 0 && q.device % 4 == 0

-- the sizes of virtio 1.1, 2.6, for a queue of n descriptors: 16n, 6 + 2n and 6 + 8n bytes
abbrev pub are_inside : Queue → ℕ → Bool
are_inside q size =
    is_inside size q.desc (16 * q.num) && is_inside size q.driver (6 + 2 * q.num) && is_inside size q.device (6 + 8 * q.num)

-- the three areas lie in RAM of this many bytes
pub record AreasFit (q : Queue) (size : ℕ) : Type 0 where
  pub desc_from : ram_start ≤ q.desc
  pub desc_to : q.desc + 16 * q.num ≤ ram_start + size
  pub driver_from : ram_start ≤ q.driver
  pub driver_to : q.driver + (6 + 2 * q.num) ≤ ram_start + size
  pub device_from : ram_start ≤ q.device
  pub device_to : q.device + (6 + 8 * q.num) ≤ ram_start + size

-- a size that a queue in service has
pub record IsSized (q : Queue) : Type 0 where
  pub some : 0 < q.num
  pub few : q.num ≤ most_descriptors

-- how many chains are available and not yet taken: the available ring's idx (virtio 1.1, 2.6.6: le16 flags,
-- le16 idx, then the entries) less the device's counter, modulo 2 ^ 16
abbrev pub waiting : Queue → List ℕ → ℕ
waiting q bytes = (le16 bytes (place_of q.driver + 2) + (2 ^ 16 - q.next_available)) % 2 ^ 16

-- how many chains can be served, or what is wrong with the queue
unfoldable pub available_of : Queue → List ℕ → Result ℕ Broken
available_of q bytes =
    if is_aligned q then
    (if are_inside q (length bytes) then
    (if nat_lt most_descriptors (waiting q bytes) then Err TooMany else Ok (waiting q bytes))
    else Err AreaOutside)
    else Err Misaligned
