use Rattle.checkpoint_stream.proofs.TextLaws.{never-a-text}
use Rattle.checkpoint_stream.proofs.laws.malformed_begins_no_text.Goals as goal

pub returns : goal.returns
returns c = never-a-text
