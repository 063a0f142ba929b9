use Rattle.block_device.proofs.ReadBack.{reads_back}
use Rattle.block_device.proofs.laws.reading_back.Goals as goal

pub returns : goal.returns
returns c = λ disk w r room writes good reads same. reads_back disk w r room writes good reads same
