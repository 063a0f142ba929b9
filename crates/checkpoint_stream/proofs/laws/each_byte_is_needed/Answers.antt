use Rattle.checkpoint_stream.proofs.TextLaws.{every-byte}
use Rattle.checkpoint_stream.proofs.laws.each_byte_is_needed.Goals as goal

pub returns : goal.returns
returns c = every-byte
