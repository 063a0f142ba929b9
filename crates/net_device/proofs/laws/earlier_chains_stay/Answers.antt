-- It computes.
use Rattle.std.proofs.Common.{refl}
use Rattle.virtqueue.specs.Areas.{available_of}
use Rattle.virtqueue.specs.Chains.{chain_of}
use Rattle.virtqueue.specs.Used.{used_written}
use Rattle.virtio_mmio.specs.ServingLoop.{chains_served, served as loop_served}
use Rattle.net_device.specs.Transmit.{served}
use Rattle.net_device.specs.Worked.{ram_with}
use Rattle.net_device.proofs.laws.earlier_chains_stay.Goals as goal

pub returns : goal.returns
unfolding available_of chain_of used_written chains_served loop_served served ram_with
returns c = record {
  bad_index = record { sent = refl; used = refl; card = refl };
  indirect = record { sent = refl; used = refl; card = refl };
  outside = record { sent = refl; used = refl; card = refl };
  order = record { sent = refl; used = refl; card = refl };
  comes_back = record { sent = refl; used = refl; card = refl };
  direction = record { sent = refl; used = refl; card = refl };
}
