-- The parts of a split virtqueue, by virtio 1.1, section 2.6: all numbers have their low byte first.
use Rattle.std.specs.Prelude.{ℕ, List, ◌++◌}
use Rattle.std.specs.Int.{to_le_bytes, w16, w32, w64}

-- a descriptor: the address and length of its buffer, its flags, and the descriptor behind it
unfoldable pub descriptor : (address len flags next : ℕ) → List ℕ
descriptor address len flags next =
    to_le_bytes w64 address ++ to_le_bytes w32 len ++ to_le_bytes w16 flags ++ to_le_bytes w16 next
