use Rattle.script_player.proofs.LaneLemmas.{all-digits}
use Rattle.script_player.proofs.digits.are_digits.Goals as goal

pub returns : goal.returns
returns c = all-digits c.args.lanes c.fits-lanes.0 c.fits-lanes.1
