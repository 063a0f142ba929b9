use Rattle.std.specs.Prelude.{ℕ, ◌+◌, ◌^◌, [], ◌∷◌}
use Rattle.std.specs.Int.{from_le_bytes, w64}
use Rattle.virtio_mmio.specs.declared.kinds.DeviceKind.{DeviceKind}
use Rattle.virtio_mmio.specs.declared.kinds.DeviceKind.TheVariants.{Network, Block}

-- the device IDs of virtio 1.1, section 5
abbrev pub device_id : DeviceKind → ℕ
device_id Network = 1
device_id (Block capacity) = 2

-- virtio 1.1, 5.1.2: receiveq1 is queue 0 and transmitq1 queue 1; 5.2.2: requestq is queue 0
abbrev pub queue_count : DeviceKind → ℕ
queue_count Network = 2
queue_count (Block capacity) = 1

-- the bits offered: VIRTIO_F_VERSION_1 is bit 32 (virtio 1.1, 6), VIRTIO_NET_F_MAC bit 5 (5.1.3),
-- VIRTIO_BLK_F_FLUSH bit 9 (5.2.3)
abbrev pub offered : DeviceKind → ℕ
offered Network = 2 ^ 32 + 2 ^ 5
offered (Block capacity) = 2 ^ 32 + 2 ^ 9

-- the configuration space as one little-endian number: six bytes of MAC (virtio 1.1, 5.1.4), here
-- 02:00:00:00:00:01, or le64 capacity in sectors of 512 bytes (5.2.4)
abbrev pub config : DeviceKind → ℕ
config Network = from_le_bytes w64 (0x02 ∷ 0x00 ∷ 0x00 ∷ 0x00 ∷ 0x00 ∷ 0x01 ∷ 0x00 ∷ 0x00 ∷ [])
config (Block capacity) = capacity
