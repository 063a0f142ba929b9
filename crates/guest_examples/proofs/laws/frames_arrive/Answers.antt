-- Whole steps and the arrival compute from boot.
use Rattle.std.proofs.Common.{refl}
use Rattle.rv64_core.specs.Rows.{table, decoded}
use Rattle.rv64_core.specs.Meaning.{plan_of}
use Rattle.mtraps.specs.Interrupts.{due_interrupt}
use Rattle.mtraps.specs.Traps.{after_entry, handler}
use Rattle.bus_map.specs.AddressMap.{address_map, place_of}
use Rattle.virtqueue.specs.Areas.{available_of}
use Rattle.virtqueue.specs.Chains.{chain_of, next_chain_of}
use Rattle.virtqueue.specs.Used.{used_written}
use Rattle.virtio_mmio.specs.Registers.{row_at}
use Rattle.virtio_mmio.specs.Transport.{loaded, stored}
use Rattle.net_device.specs.Receive.{received}
use Rattle.guest_examples.specs.Beacon.{beacon_with}
use Rattle.guest_rules.specs.Runs.{after_steps}
use Rattle.paged_memory.specs.Bytes.{number_at, with_number}
use Rattle.guest_examples.specs.Examples.{receiver}
use Rattle.guest_rules.specs.Guest.{boot_guest}
use Rattle.guest_rules.specs.Pending.{mip}
use Rattle.guest_rules.specs.Step.{carried_out, instruction_done, step_done, next, arrived}
use Rattle.guest_examples.proofs.laws.frames_arrive.Goals as goal

pub returns : goal.returns
unfolding table decoded plan_of due_interrupt after_entry handler address_map place_of row_at loaded stored number_at with_number
    available_of chain_of next_chain_of used_written received boot_guest mip carried_out instruction_done step_done next arrived beacon_with
    after_steps receiver
returns c = record {
  quiet = refl;
  header = refl;
  frame = refl;
  used = refl;
  used_len = refl;
  told = refl;
  pending = refl;
  steps = refl;
  second = refl;
}
