use Rattle.checkpoint_stream.proofs.ReadSpelled.{read-is-text}
use Rattle.checkpoint_stream.proofs.laws.read_is_its_text.Goals as goal

pub returns : goal.returns
returns c = read-is-text
