use Rattle.checkpoint_stream.proofs.TextRead.{units-taken}
use Rattle.checkpoint_stream.proofs.laws.units_are_read.Goals as goal

pub returns : goal.returns
returns c = λ r units are. (units-taken r units are).reading
