-- It computes.
use Rattle.std.proofs.Common.{refl}
use Rattle.virtqueue.specs.Areas.{available_of}
use Rattle.virtqueue.specs.Chains.{chain_of, next_chain_of}
use Rattle.virtqueue.specs.Used.{used_written}
use Rattle.net_device.specs.Receive.{received}
use Rattle.net_device.specs.Worked.{ram_with}
use Rattle.net_device.proofs.laws.packets_received.Goals as goal

pub returns : goal.returns
unfolding available_of chain_of next_chain_of used_written received ram_with
returns c = record {
  taken = refl;
  bytes = refl;
  used = refl;
  card = refl;
  first_half = refl;
  second_half = refl;
  none = refl;
  short = refl;
  outside_service = refl;
}
