use Rattle.std.specs.Prelude.{ℕ, ◌-◌, ◌/◌, ◌%◌, ◌^◌, Bool, ◌==◌, ◌||◌, if◌then◌else◌, nat_lt, Option, Some, None}
use Rattle.virtio_mmio.specs.declared.kinds.DeviceKind.{DeviceKind}
use Rattle.virtio_mmio.specs.declared.states.DeviceState.{DeviceState}
use Rattle.std.specs.Option.{option_map, option_map_or}
use Rattle.virtio_mmio.specs.declared.actions.Action.{Action}
use Rattle.virtio_mmio.specs.Kinds.{config}
use Rattle.virtio_mmio.specs.Registers.{Stored, leaves, row_at}

-- what callers see of a transport: the kind of device, which stays, and its record
pub record Device : Type 0 where
  pub kind : DeviceKind
  pub state : DeviceState

-- the widths of an access, in bytes
abbrev pub is_width : ℕ → Bool
is_width w = w == 1 || w == 2 || w == 4 || w == 8

-- the w bytes from a place of the configuration space, little endian; all behind its end is 0 (virtio 1.1, 4.2.2.2)
abbrev pub config_value : DeviceKind → ℕ → ℕ → ℕ
config_value k place w = config k / 256 ^ place % 256 ^ w

-- what a load gives; none is an access fault. Registers take width 4 alone, the configuration space,
-- from 0x100 on, every width (virtio 1.1, 4.2.2.2)
unfoldable pub loaded : DeviceKind → DeviceState → ℕ → ℕ → Option ℕ
loaded k d o w =
    if nat_lt o 0x100 then (if w == 4 then Some ((row_at o).load k d) else None)
    else (if is_width w then Some (config_value k (o - 0x100) w) else None)

-- what a store does; none is an access fault. The configuration space ignores stores
unfoldable pub stored : DeviceKind → DeviceState → ℕ → ℕ → ℕ → Option Stored
stored k d o w v =
    if nat_lt o 0x100 then (if w == 4 then Some ((row_at o).store k d (v % 2 ^ 32)) else None)
    else (if is_width w then Some (leaves d) else None)

-- what a store answers its caller, and the record after it; an access fault changes nothing
abbrev pub store_answer : DeviceKind → DeviceState → ℕ → ℕ → ℕ → Option Action
store_answer k d o w v = option_map (λ s. s.action) (stored k d o w v)

abbrev pub state_after_store : DeviceKind → DeviceState → ℕ → ℕ → ℕ → DeviceState
state_after_store k d o w v = option_map_or (λ s. s.state) (stored k d o w v) d
