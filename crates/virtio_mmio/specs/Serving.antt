use Rattle.std.specs.Prelude.{ℕ, Bool, not, ◌&&◌, if◌then◌else◌, slice_set, bit_or}
use Rattle.virtio_mmio.specs.declared.kinds.DeviceKind.{DeviceKind}
use Rattle.virtio_mmio.specs.declared.states.DeviceState.{DeviceState}
use Rattle.virtio_mmio.specs.States.{queue_at}
use Rattle.virtio_mmio.specs.Registers.{is_set, has_queue}

-- Status (virtio 1.1, 2.1) has DRIVER_OK (4) and FEATURES_OK (8) and not DEVICE_NEEDS_RESET (64)
abbrev pub is_running : DeviceState → Bool
is_running d = is_set d.status 4 && is_set d.status 8 && not (is_set d.status 64)

-- a device serves a queue of its own only while it runs and the queue is ready
abbrev pub can_serve : DeviceKind → DeviceState → ℕ → Bool
can_serve k d i = is_running d && (has_queue k i && (queue_at d i).ready)

-- a used buffer notification: bit 0 of InterruptStatus (virtio 1.1, 4.2.2)
abbrev pub used_signalled : DeviceState → DeviceState
used_signalled d = record d { interrupt_status = bit_or d.interrupt_status 1 }

-- the device met a malformation: DEVICE_NEEDS_RESET, and while DRIVER_OK is set a configuration change
-- notification, bit 1 of InterruptStatus (virtio 1.1, 2.1.2)
abbrev pub needing_reset : DeviceState → DeviceState
needing_reset d = record d {
  status = bit_or d.status 0x40;
  interrupt_status = if is_set d.status 4 then bit_or d.interrupt_status 2 else d.interrupt_status;
}

-- the record with the two counters of a queue of the device's own replaced
abbrev pub with_counters : DeviceKind → DeviceState → ℕ → ℕ → ℕ → DeviceState
with_counters k d i available used = record d {
  queues = if has_queue k i
      then slice_set d.queues i (record (queue_at d i) { next_available = available; next_used = used })
      else d.queues;
}
