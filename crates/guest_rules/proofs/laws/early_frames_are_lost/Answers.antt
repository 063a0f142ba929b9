use Rattle.std.proofs.Common.{refl}
use Rattle.net_device.specs.Receive.{received}
use Rattle.guest_rules.specs.Guest.{boot_guest}
use Rattle.guest_rules.specs.Step.{arrived}
use Rattle.guest_rules.proofs.laws.early_frames_are_lost.Goals as goal

pub returns : goal.returns
unfolding arrived received boot_guest
returns c pages sectors image frame = refl
