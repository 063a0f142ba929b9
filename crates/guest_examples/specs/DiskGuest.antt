-- A worked guest, by guest_kit's words: it sets up the disk's queue with one request of three descriptors, and notifies it in step 23.
use Rattle.std.specs.Prelude.{◌≡◌, ℕ, List, [], ◌∷◌, ◌++◌, replicate}
use Rattle.std.specs.List.{flat_map}
use Rattle.byteorder.specs.Endian.{little_bytes}
use Rattle.paged_memory.specs.Bytes.{number_at}
use Rattle.guest_kit.specs.Disk.{disk_words}
use Rattle.guest_rules.specs.Guest.{boot_guest}
use Rattle.guest_rules.specs.Runs.{after_steps, marked_in}

-- a descriptor: its buffer's address and length, its flags, and the number of the next
abbrev pub descriptor_bytes : ℕ → ℕ → ℕ → ℕ → List ℕ
descriptor_bytes address len flags following =
    little_bytes 8 address ++ (little_bytes 4 len ++ (little_bytes 2 flags ++ little_bytes 2 following))

-- the words; from 0x1000 on three descriptors: the request's head and its data, which the disk reads, and its status byte,
-- which it writes; at 0x1040 the available ring with one chain; at 0x1080 the used ring; at 0x1100 the head, of this type and
-- this sector; at 0x1110 the byte ff; at 0x1200 512 times this byte; all else 0
unfoldable pub disk_guest_with : ℕ → ℕ → ℕ → List ℕ
disk_guest_with kind sector byte =
    flat_map (little_bytes 4) disk_words ++ (replicate 4000 0
    ++ (descriptor_bytes 0x80001100 16 1 1 ++ (descriptor_bytes 0x80001200 512 1 2 ++ (descriptor_bytes 0x80001110 1 2 0
    ++ (replicate 16 0 ++ (little_bytes 2 0 ++ (little_bytes 2 1 ++ (replicate 188 0
    ++ (little_bytes 8 kind ++ (little_bytes 8 sector ++ (0xff ∷ replicate 239 0 ++ replicate 512 byte)))))))))))

-- the guest that writes 512 times a byte to a sector
abbrev pub disk_guest : ℕ → ℕ → List ℕ
disk_guest sector byte = disk_guest_with 1 sector byte

-- on a disk of 8 sectors a request of this type at this sector, with data of bytes ab, is answered by this status byte, with
-- used length 1, and no sector is written
pub record IsAnswered (kind sector status : ℕ) : Type 0 where
  pub byte : number_at (after_steps 23 (boot_guest 2 8 (disk_guest_with kind sector 0xab))).ram 0x1110 1 ≡ status
  pub used_len : number_at (after_steps 23 (boot_guest 2 8 (disk_guest_with kind sector 0xab))).ram 0x1088 4 ≡ 1
  pub sectors : (after_steps 23 (boot_guest 2 8 (disk_guest_with kind sector 0xab))).sectors ≡ replicate 4096 0
  pub list : marked_in 23 (boot_guest 2 8 (disk_guest_with kind sector 0xab)) [] ≡ []
