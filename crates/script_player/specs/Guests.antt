-- The guests that a boot line can name: how each is spelled, what it needs, and its image.
use Rattle.std.specs.Prelude.{◌≡◌, ℕ, ◌*◌, ◌^◌, ◌<◌, ◌≤◌, ◌++◌, ◌∷◌, [], List, Some, codes, length}
use Rattle.std.specs.List.{join_with_byte, flat_map, AllByRecursion}
use Rattle.std.specs.Int.{to_be_bytes, to_le_bytes, w32}
use Rattle.hex.specs.Hex.{encode_lower}
use Rattle.guest_kit.specs.Image.{image_of}
use Rattle.guest_kit.specs.Idle.{idle_program}
use Rattle.guest_kit.specs.Beacon.{beacon_program}
use Rattle.guest_kit.specs.Disk.{disk_program}
use Rattle.script_player.specs.Fields.{number_written}
use Rattle.script_player.specs.Limits.{page_bytes}
use Rattle.script_player.specs.declared.boot.Guest.{Guest}
use Rattle.script_player.specs.declared.boot.Guest.TheVariants as guests

-- a guest: one of the kit's, or instruction words
pub data NamedGuest : Type 0 where
  idle : NamedGuest
  beacon : NamedGuest
  disk : (sector byte : ℕ) → NamedGuest
  words : List ℕ → NamedGuest

-- a word is spelled as a space and eight hex digits in lower case, the highest first
abbrev pub word_field : ℕ → List ℕ
word_field w = 32 ∷ encode_lower (to_be_bytes w32 w)

-- words are spelled one after another; there is at least one
pub record IsWords (text : List ℕ) (ws : List ℕ) : Type 0 where
  pub shape : text ≡ flat_map word_field ws
  pub some : 0 < length ws
  pub below : AllByRecursion (λ w. w < 2 ^ 32) ws

-- `disk SECTOR HH`: a sector's number, be it on the disk or beyond it, and a byte in two hex digits in lower case
pub record IsDisk (text : List ℕ) (sector byte : ℕ) : Type 0 where
  pub number : List ℕ
  pub digits : List ℕ
  pub shape : text ≡ join_with_byte 32 (codes "disk" ∷ number ∷ digits ∷ [])
  pub sector_written : number_written number ≡ Some sector
  pub byte_written : digits ≡ encode_lower (byte ∷ [])
  pub below : byte < 2 ^ 8

-- how each guest is spelled
abbrev pub NamesGuest : List ℕ → NamedGuest → Type 0
NamesGuest text idle = text ≡ codes "idle"
NamesGuest text beacon = text ≡ codes "beacon"
NamesGuest text (disk sector byte) = IsDisk text sector byte
NamesGuest text (words ws) = (fields : List ℕ) × (text ≡ codes "words" ++ fields) × IsWords fields ws

-- the pages that each needs: a guest with a driver 2, words as many as hold their 4 bytes each
abbrev pub GuestFits : ℕ → NamedGuest → Type 0
GuestFits pages idle = Unit {0}
GuestFits pages beacon = 2 ≤ pages
GuestFits pages (disk sector byte) = 2 ≤ pages
GuestFits pages (words ws) = 4 * length ws ≤ page_bytes * pages

-- a text names a guest that fits in so many pages
abbrev pub IsGuest : ℕ → List ℕ → NamedGuest → Type 0
IsGuest pages text guest = NamesGuest text guest × GuestFits pages guest

-- the bytes of words, each with its lowest byte first
abbrev pub words_image : List ℕ → List ℕ
words_image ws = flat_map (to_le_bytes w32) ws

-- the bytes that memory begins with
abbrev pub guest_image : NamedGuest → List ℕ
guest_image idle = image_of idle_program
guest_image beacon = image_of beacon_program
guest_image (disk sector byte) = image_of (disk_program sector byte)
guest_image (words ws) = words_image ws

-- the program's guest, whose words lie in a `Vec`
abbrev pub named_guest : Guest → NamedGuest
named_guest guests.Idle = idle
named_guest guests.Beacon = beacon
named_guest (guests.Disk sector byte) = disk sector byte
named_guest (guests.Words ws) = words ws.items
