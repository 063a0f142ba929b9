use Rattle.checkpoint_stream.specs.laws.Feeding.{fed-append}
use Rattle.checkpoint_stream.proofs.laws.any_pieces.Goals as goal

pub returns : goal.returns
returns c = fed-append
