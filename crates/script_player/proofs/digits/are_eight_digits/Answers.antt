use Rattle.script_player.proofs.LaneLemmas.{eight-digits}
use Rattle.script_player.proofs.digits.are_eight_digits.Goals as goal

pub returns : goal.returns
returns c = eight-digits c.args.lanes c.fits-lanes.0 c.fits-lanes.1
