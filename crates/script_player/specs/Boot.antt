-- The boot line, `boot PAGES SECTORS CLIENTS GUEST`, in fields that are parted by one space.
use Rattle.std.specs.Prelude.{◌≡◌, ℕ, ◌≤◌, ◌∷◌, [], List, Some, codes}
use Rattle.std.specs.List.{join_with_byte}
use Rattle.pair_core.specs.HistoryState.{HistoryState, start_state}
use Rattle.script_player.specs.Fields.{number_written}
use Rattle.script_player.specs.Guests.{NamedGuest, NamesGuest, GuestFits, guest_image, named_guest}
use Rattle.script_player.specs.Limits.{most_pages, most_sectors, most_clients}
use Rattle.script_player.specs.declared.boot.Boot.{Boot}

-- what a boot line says
pub record BootLine : Type 0 where
  pub pages : ℕ
  pub sectors : ℕ
  pub clients : ℕ
  pub guest : NamedGuest

-- 1 to 16384 pages, 1 to 32768 sectors, 1 to 16 clients, and a guest that fits in the pages
pub record IsInLimits (line : BootLine) : Type 0 where
  pub pages : (1 ≤ line.pages) × (line.pages ≤ most_pages)
  pub sectors : (1 ≤ line.sectors) × (line.sectors ≤ most_sectors)
  pub clients : (1 ≤ line.clients) × (line.clients ≤ most_clients)
  pub guest : GuestFits line.pages line.guest

-- a text spells a boot line: each field writes its part, and the line is in the limits
pub record IsBoot (text : List ℕ) (line : BootLine) : Type 0 where
  pub pages : List ℕ
  pub sectors : List ℕ
  pub clients : List ℕ
  pub guest : List ℕ
  pub shape : text ≡ join_with_byte 32 (codes "boot" ∷ pages ∷ sectors ∷ clients ∷ guest ∷ [])
  pub pages_written : number_written pages ≡ Some line.pages
  pub sectors_written : number_written sectors ≡ Some line.sectors
  pub clients_written : number_written clients ≡ Some line.clients
  pub guest_named : NamesGuest guest line.guest
  pub limits : IsInLimits line

-- the program's boot line, whose words lie in a `Vec`
abbrev pub boot_line : Boot → BootLine
boot_line boot = record { pages = boot.pages; sectors = boot.sectors; clients = boot.clients; guest = named_guest boot.guest }

-- where the pair of a boot line starts
abbrev pub booted_state : BootLine → HistoryState
booted_state line = start_state line.pages line.sectors (guest_image line.guest) line.clients
