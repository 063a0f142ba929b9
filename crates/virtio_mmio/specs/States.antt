use Rattle.std.specs.Prelude.{◌≡◌, ℕ, ◌≤◌, ◌<◌, Bool, true, ◌==◌, ◌||◌, IsTrue, [], ◌∷◌, slice_index_or, bit_and}
use Rattle.virtqueue.specs.declared.rings.Queue.{Queue}
use Rattle.virtqueue.specs.Queues.{boot_queue}
use Rattle.virtio_mmio.specs.declared.kinds.DeviceKind.{DeviceKind}
use Rattle.virtio_mmio.specs.declared.kinds.DeviceKind.TheVariants.{Network, Block}
use Rattle.virtio_mmio.specs.declared.states.DeviceState.{DeviceState}

-- the record at boot and after a reset (virtio 1.1, 2.1: the driver writes 0 to reset the device)
abbrev pub boot_state : DeviceState
boot_state = record {
  status = 0;
  device_features_sel = 0;
  driver_features_sel = 0;
  driver_features = 0;
  queue_sel = 0;
  interrupt_status = 0;
  queues = boot_queue ∷ boot_queue ∷ [];
}

-- the queue of a number, and the record with it replaced
abbrev pub queue_at : DeviceState → ℕ → Queue
queue_at d i = slice_index_or d.queues i boot_queue

-- a size that QueueNum takes: a power of two from 1 to 64 (virtio 1.1, 2.6: a power of 2; QueueNumMax is 64)
abbrev pub is_queue_size : ℕ → Bool
is_queue_size n = n == 1 || n == 2 || n == 4 || n == 8 || n == 16 || n == 32 || n == 64

-- what one queue of a record can be: its size is 0 or one that QueueNum takes, and a ready queue has a size
pub record IsQueueRecord (q : Queue) : Type 0 where
  pub size : IsTrue (q.num == 0 || is_queue_size q.num)
  pub ready_has_size : q.ready ≡ true → 0 < q.num

-- a queue that the device doesn't have stays as at boot
abbrev pub AbsentQueuesAtBoot : DeviceKind → DeviceState → Type 0
AbsentQueuesAtBoot Network d = Unit {0}
AbsentQueuesAtBoot (Block capacity) d = queue_at d 1 ≡ boot_queue

-- the rules of a device record: status has bits of 0xcf alone (virtio 1.1, 2.1 names these and no others),
-- InterruptStatus bits 0 and 1 alone (4.2.2)
pub record IsDeviceRecord (k : DeviceKind) (d : DeviceState) : Type 0 where
  pub status_bits : bit_and d.status 0xcf ≡ d.status
  pub interrupt_bits : d.interrupt_status ≤ 3
  pub queue_0 : IsQueueRecord (queue_at d 0)
  pub queue_1 : IsQueueRecord (queue_at d 1)
  pub absent : AbsentQueuesAtBoot k d
