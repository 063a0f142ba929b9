-- What the types of a checkpoint's parts say of its numbers and of its lists.
use Rattle.std.specs.Prelude.{◌≡◌, ◌^◌, ◌<◌, length, All}
use Rattle.guest_rules.specs.declared.machine_state.MachineState.{MachineState}
use Rattle.virtqueue.specs.declared.rings.Queue.{Queue}
use Rattle.virtio_mmio.specs.declared.states.DeviceState.{DeviceState}
use Rattle.virtio_mmio.specs.States.{queue_at}
use Rattle.epoch_snapshot.specs.Checkpoints.{Change}

-- a queue: its size has 32 bits, its areas have 64-bit addresses, and its counters 16 bits
pub record QueueFits (q : Queue) : Type 0 where
  pub num : q.num < 2 ^ 32
  pub desc : q.desc < 2 ^ 64
  pub driver : q.driver < 2 ^ 64
  pub device : q.device < 2 ^ 64
  pub next_available : q.next_available < 2 ^ 16
  pub next_used : q.next_used < 2 ^ 16

-- a device: registers of 32 bits, 64 features, and two queues
pub record DeviceFits (d : DeviceState) : Type 0 where
  pub status : d.status < 2 ^ 32
  pub device_features_sel : d.device_features_sel < 2 ^ 32
  pub driver_features_sel : d.driver_features_sel < 2 ^ 32
  pub driver_features : d.driver_features < 2 ^ 64
  pub queue_sel : d.queue_sel < 2 ^ 32
  pub interrupt_status : d.interrupt_status < 2 ^ 32
  pub count : length d.queues ≡ 2
  pub queue_0 : QueueFits (queue_at d 0)
  pub queue_1 : QueueFits (queue_at d 1)

-- a hart of 64 bits with 31 registers beside x0, and two devices
pub record StateFits (s : MachineState) : Type 0 where
  pub steps : s.steps < 2 ^ 64
  pub count : length s.registers ≡ 31
  pub pc : s.pc < 2 ^ 64
  pub mstatus : s.csrs.mstatus < 2 ^ 64
  pub mie : s.csrs.mie < 2 ^ 64
  pub mtvec : s.csrs.mtvec < 2 ^ 64
  pub mscratch : s.csrs.mscratch < 2 ^ 64
  pub mepc : s.csrs.mepc < 2 ^ 64
  pub mcause : s.csrs.mcause < 2 ^ 64
  pub mtval : s.csrs.mtval < 2 ^ 64
  pub msip : s.msip < 2 ^ 32
  pub mtimecmp : s.mtimecmp < 2 ^ 64
  pub net : DeviceFits s.net
  pub disk : DeviceFits s.disk

-- a checkpoint: a page has 64 blocks of 64 bytes, and a sector 512 bytes
pub record HasWidths (c : Change) : Type 0 where
  pub state : StateFits c.state
  pub registers : All (λ n. n < 2 ^ 64) c.state.registers
  pub masks : All (λ p. p.mask < 2 ^ 64) c.pages
  pub blocks : All (λ b. length b ≡ 64) c.blocks
  pub sectors : All (λ s. length s.bytes ≡ 512) c.sectors
