-- The guest: all that one hart and its devices hold.
use Rattle.std.specs.Prelude.{ℕ, ◌-◌, ◌*◌, ◌^◌, Bool, List, ◌++◌, length, replicate}
use Rattle.arrayvec.specs.ArrayVec.{ArrayVec}
use Rattle.rv64_core.specs.Registers.{no_registers}
use Rattle.mtraps.specs.declared.values.CsrValues.{CsrValues}
use Rattle.mtraps.specs.CsrTable.{boot_values}
use Rattle.bus_map.specs.Limits.{ram_base}
use Rattle.guest_rules.specs.Limits.{page_bytes}
use Rattle.virtio_mmio.specs.declared.kinds.DeviceKind.{DeviceKind}
use Rattle.virtio_mmio.specs.declared.kinds.DeviceKind.TheVariants.{Network, Block}
use Rattle.virtio_mmio.specs.declared.states.DeviceState.{DeviceState}
use Rattle.virtio_mmio.specs.States.{boot_state, IsDeviceRecord}
-- the sectors of a disk by the bytes of all of them, for those who name them with the guest
pub use Rattle.block_device.specs.Sectors.{sector_count, sector_of, sector_in}

-- x0 to x31 and the pc (the Unprivileged ISA), the CSRs (the Privileged ISA, machine mode), the software interrupt's register
-- msip, 0 or 1, and the timer's register mtimecmp, the bytes of memory from ram_base on, the network card's record, the
-- disk's record and the bytes of all its sectors, one sector after another, and how many steps were made, modulo 2^64, which
-- is also the timer's time
pub record Guest : Type 0 where
  pub regs : List ℕ
  pub pc : ℕ
  pub csrs : CsrValues
  pub msip : ℕ
  pub mtimecmp : ℕ
  pub ram : List ℕ
  pub net : DeviceState
  pub disk : DeviceState
  pub sectors : List ℕ
  pub steps : ℕ

-- a machine: its guest; since the last settle the frames that the guest sent, in order, and the sectors that were written, in
-- rising order; the bytes of memory at that settle, and for each page whether it was written since
pub record State : Type 0 where
  pub guest : Guest
  pub outbox : List (ArrayVec ℕ)
  pub dirty : List ℕ
  pub settled : List ℕ
  pub written : List Bool

-- the device that the guest's driver sees of its disk
abbrev pub disk_kind : Guest → DeviceKind
disk_kind g = Block (sector_count g.sectors)

-- what both devices keep meets the rules of their records
pub record HasDeviceRecords (g : Guest) : Type 0 where
  pub net : IsDeviceRecord Network g.net
  pub disk : IsDeviceRecord (disk_kind g) g.disk

-- the guest at boot, with so many pages and so many sectors: the image stands from the pc on, no timer interrupt
-- is set, and all else is 0 or as the CSR table says
unfoldable pub boot_guest : ℕ → ℕ → List ℕ → Guest
boot_guest pages sectors image = record {
  regs = no_registers;
  pc = ram_base;
  csrs = boot_values;
  msip = 0;
  mtimecmp = 2 ^ 64 - 1;
  ram = image ++ replicate (page_bytes * pages - length image) 0;
  net = boot_state;
  disk = boot_state;
  sectors = replicate (512 * sectors) 0;
  steps = 0;
}
