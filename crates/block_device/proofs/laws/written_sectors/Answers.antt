use Rattle.block_device.proofs.Members.{in_written}
use Rattle.block_device.proofs.laws.written_sectors.Goals as goal

pub returns : goal.returns
returns c = λ dirty first count i. in_written dirty first count i
