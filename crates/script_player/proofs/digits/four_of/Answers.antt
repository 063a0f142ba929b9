use Rattle.script_player.proofs.LaneLemmas.{eight-joined}
use Rattle.script_player.proofs.digits.four_of.Goals as goal

pub returns : goal.returns
returns c = eight-joined c.args.numbers c.fits-numbers.0 c.requires
