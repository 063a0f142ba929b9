-- Whole steps compute from boot.
use Rattle.std.proofs.Common.{refl}
use Rattle.rv64_core.specs.Rows.{table, decoded}
use Rattle.rv64_core.specs.Meaning.{plan_of}
use Rattle.mtraps.specs.Interrupts.{due_interrupt}
use Rattle.mtraps.specs.Traps.{after_entry, handler}
use Rattle.bus_map.specs.AddressMap.{address_map, place_of}
use Rattle.virtqueue.specs.Areas.{available_of}
use Rattle.virtqueue.specs.Chains.{chain_of}
use Rattle.virtqueue.specs.Used.{used_written}
use Rattle.virtio_mmio.specs.Registers.{row_at}
use Rattle.virtio_mmio.specs.ServingLoop.{chains_served, served as loop_served}
use Rattle.virtio_mmio.specs.Transport.{loaded, stored}
use Rattle.block_device.specs.Disk.{disk_served}
use Rattle.block_device.specs.Request.{request_act}
use Rattle.guest_examples.specs.DiskGuest.{disk_guest_with}
use Rattle.guest_rules.specs.Runs.{after_steps, sent_in, marked_in}
use Rattle.paged_memory.specs.Bytes.{number_at, with_number}
use Rattle.guest_rules.specs.Guest.{boot_guest}
use Rattle.guest_rules.specs.Pending.{mip}
use Rattle.guest_rules.specs.Step.{carried_out, instruction_done, step_done, next, sent, marked}
use Rattle.guest_examples.proofs.laws.disk_writes.Goals as goal

pub returns : goal.returns
unfolding table decoded plan_of due_interrupt after_entry handler address_map place_of row_at loaded stored number_at with_number
    available_of chain_of used_written chains_served loop_served request_act disk_served boot_guest mip carried_out instruction_done
    step_done next sent marked disk_guest_with after_steps sent_in marked_in
returns c = record {
  before = refl;
  sectors = refl;
  list = refl;
  status = refl;
  used = refl;
  used_len = refl;
  told = refl;
  pending = refl;
  net = refl;
  frames = refl;
}
