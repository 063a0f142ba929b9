-- Where addresses lie in memory.
use Rattle.std.specs.Prelude.{ℕ, ◌+◌, ◌-◌, Bool, ◌&&◌, nat_le}
use Rattle.bus_map.specs.Limits.{ram_base}

-- n bytes from an address on lie wholly in a memory of this size
abbrev pub in_ram : ℕ → ℕ → ℕ → Bool
in_ram size address n = nat_le ram_base address && nat_le (address + n) (ram_base + size)

-- the place of an address in memory
abbrev pub ram_place : ℕ → ℕ
ram_place address = address - ram_base
