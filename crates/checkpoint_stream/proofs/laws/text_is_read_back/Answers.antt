use Rattle.checkpoint_stream.proofs.TextRead.{reads-back}
use Rattle.checkpoint_stream.proofs.laws.text_is_read_back.Goals as goal

pub returns : goal.returns
returns c = reads-back
