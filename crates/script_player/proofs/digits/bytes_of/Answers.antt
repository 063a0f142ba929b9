use Rattle.script_player.proofs.LaneLemmas.{block-joined}
use Rattle.script_player.proofs.digits.bytes_of.Goals as goal

pub returns : goal.returns
returns c = block-joined c.args.numbers c.fits-numbers.0 c.requires
