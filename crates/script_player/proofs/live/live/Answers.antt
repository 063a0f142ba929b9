use Rattle.script_player.proofs.UnfollowedLines.{served-so, unfollowed}
use Rattle.script_player.proofs.live.live.Goals as goal

pub returns : goal.returns
returns g c = rw c.new-pair.ensures at (served-so unfollowed c.serve.ensures)
