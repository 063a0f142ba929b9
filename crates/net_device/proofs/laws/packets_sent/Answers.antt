-- It computes.
use Rattle.std.proofs.Common.{refl}
use Rattle.virtqueue.specs.Areas.{available_of}
use Rattle.virtqueue.specs.Chains.{chain_of}
use Rattle.virtqueue.specs.Used.{used_written}
use Rattle.virtio_mmio.specs.ServingLoop.{chains_served, served as loop_served}
use Rattle.net_device.specs.Transmit.{served}
use Rattle.net_device.specs.Worked.{ram_with}
use Rattle.net_device.proofs.laws.packets_sent.Goals as goal

pub returns : goal.returns
unfolding available_of chain_of used_written chains_served loop_served served ram_with
returns c = record {
  two = refl;
  used = refl;
  many = refl;
  none = refl;
  none_used = refl;
  told = refl;
  shortest = refl;
  longest = refl;
  too_long = refl;
  outside_service = refl;
}
