-- What contracts see of a disk.
use Rattle.std.specs.Prelude.{ℕ, List}
use Rattle.virtio_mmio.specs.declared.kinds.DeviceKind.{DeviceKind}
use Rattle.virtio_mmio.specs.declared.kinds.DeviceKind.TheVariants.{Block}
use Rattle.virtio_mmio.specs.declared.states.DeviceState.{DeviceState}
use Rattle.virtio_mmio.specs.ServingLoop.{Served, standing, served}
use Rattle.block_device.specs.Contents.{Contents, capacity}
use Rattle.block_device.specs.Request.{request_act}

-- its device record, and its sectors
pub record DiskState : Type 0 where
  pub state : DeviceState
  pub contents : Contents

abbrev pub disk_of : DeviceState → Contents → DiskState
disk_of state contents = record { state = state; contents = contents }

-- the device that the driver sees: a block device of so many sectors
abbrev pub kind_of : DiskState → DeviceKind
kind_of d = Block (capacity d.contents)

-- the bytes of RAM, the device record and the sectors after the disk has served its one queue (virtio 1.1, 5.2.2: requestq is queue 0)
unfoldable pub disk_served : List ℕ → DeviceState → Contents → Served Contents
disk_served ram state contents = served (Block (capacity contents)) 0 request_act (standing ram state contents)
