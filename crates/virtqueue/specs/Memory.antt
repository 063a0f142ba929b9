use Rattle.std.specs.Prelude.{ℕ, ◌+◌, ◌-◌, Bool, ◌&&◌, nat_le, List, ◌++◌, length, take, drop}
use Rattle.std.specs.Int.{from_le_bytes, w16, w32, w64}
use Rattle.virtqueue.specs.Limits.{ram_start}

-- bytes with some of them, from a place on, replaced; all others stay
abbrev pub written : List ℕ → ℕ → List ℕ → List ℕ
written bytes place new = take place bytes ++ new ++ drop (place + length new) bytes

-- the little-endian numbers le16, le32 and le64 of the standard (virtio 1.1, 1.4) at a place
abbrev pub le16 : List ℕ → ℕ → ℕ
le16 bytes place = from_le_bytes w16 (take 2 (drop place bytes))

abbrev pub le32 : List ℕ → ℕ → ℕ
le32 bytes place = from_le_bytes w32 (take 4 (drop place bytes))

abbrev pub le64 : List ℕ → ℕ → ℕ
le64 bytes place = from_le_bytes w64 (take 8 (drop place bytes))

-- some bytes from a guest address on lie wholly in RAM
abbrev pub is_inside : ℕ → ℕ → ℕ → Bool
is_inside size address len = nat_le ram_start address && nat_le (address + len) (ram_start + size)

-- the place in RAM of a guest address
abbrev pub place_of : ℕ → ℕ
place_of address = address - ram_start
