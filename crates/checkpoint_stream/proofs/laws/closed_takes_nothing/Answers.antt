use Rattle.checkpoint_stream.specs.laws.Feeding.{fed-closed, taken-closed}
use Rattle.checkpoint_stream.proofs.laws.closed_takes_nothing.Goals as goal

pub returns : goal.returns
returns c = λ r bytes closed. (fed-closed r bytes closed, taken-closed r bytes closed)
