use Rattle.block_device.proofs.Listed.{served_listed}
use Rattle.block_device.proofs.laws.changed_sectors_are_listed.Goals as goal

pub returns : goal.returns
returns c = λ ram state disk. served_listed ram state disk
