-- The address map of the machine. It is this machine's own; the registers msip, mtimecmp and mtime stand where SiFive's
-- core-local interruptor has them, and are named in the Privileged ISA.
use Rattle.std.specs.Prelude.{ℕ, ◌-◌, ◌<◌, ◌==◌, nat_le, Bool, true, ◌&&◌, if◌then◌else◌, List, [], ◌∷◌}
use Rattle.bus_map.specs.Limits.{ram_base}
use Rattle.bus_map.specs.declared.parts.Place.{Place}
use Rattle.bus_map.specs.declared.parts.Place.TheVariants.{Ram, Clint, Net, Block, Fault}
use Rattle.bus_map.specs.declared.parts.TimerRegister.TheVariants.{Msip, Mtimecmp, Mtime}

-- which widths a row takes, in bytes
pub data Widths : Type 0 where
  any : Widths
  only : ℕ → Widths

-- the accesses whose first byte is at an address from `first` to `last`, with a width that the row takes. They name `part`, at the
-- offset of the address from `first`
pub record Row : Type 0 where
  pub first : ℕ
  pub last : ℕ
  pub widths : Widths
  pub part : ℕ → Place

abbrev pub row : ℕ → ℕ → Widths → (ℕ → Place) → Row
row first last widths part = record { first = first; last = last; widths = widths; part = part }

-- the address map
unfoldable pub address_map : List Row
address_map =
    row 0x02000000 0x02000000 (only 4) (λ _. Clint Msip)
    ∷ row 0x02004000 0x02004000 (only 8) (λ _. Clint Mtimecmp)
    ∷ row 0x0200bff8 0x0200bff8 (only 8) (λ _. Clint Mtime)
    ∷ row 0x10001000 0x10001fff any Net
    ∷ row 0x10002000 0x10002fff any Block
    ∷ row ram_base 0xffffffffffffffff any Ram
    ∷ []

abbrev pub takes : Widths → ℕ → Bool
takes any width = true
takes (only only_width) width = width == only_width

-- the row holds an access of this width at this address
abbrev pub holds : Row → ℕ → ℕ → Bool
holds row address width = nat_le row.first address && nat_le address row.last && takes row.widths width

-- what the first of these rows that holds the access says, or a fault where none does
abbrev pub place_in : List Row → ℕ → ℕ → Place
place_in [] address width = Fault
place_in (row ∷ rows) address width =
    if holds row address width then row.part (address - row.first) else place_in rows address width

-- what an access of this width at this address names
unfoldable pub place_of : ℕ → ℕ → Place
place_of address width = place_in address_map address width

-- an offset in a device lies in its page of registers
abbrev pub IsOffsetWithin : Place → Type 0
IsOffsetWithin (Net offset) = offset < 4096
IsOffsetWithin (Block offset) = offset < 4096
IsOffsetWithin _ = Unit {0}
