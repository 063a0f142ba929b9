-- It computes.
use Rattle.std.proofs.Common.{refl}
use Rattle.virtqueue.specs.Areas.{available_of}
use Rattle.virtqueue.specs.Chains.{chain_of, next_chain_of}
use Rattle.virtqueue.specs.Used.{used_written}
use Rattle.net_device.specs.Receive.{received}
use Rattle.net_device.specs.Worked.{ram_with}
use Rattle.net_device.proofs.laws.receive_breaks.Goals as goal

pub returns : goal.returns
unfolding available_of chain_of next_chain_of used_written received ram_with
returns c = record {
  direction = refl;
  direction_first = refl;
  mixed = refl;
  indirect = refl;
  too_many = refl;
}
