use Rattle.checkpoint_stream.proofs.TextLaws.{no-beginning}
use Rattle.checkpoint_stream.proofs.laws.no_text_begins_another.Goals as goal

pub returns : goal.returns
returns c = no-beginning
