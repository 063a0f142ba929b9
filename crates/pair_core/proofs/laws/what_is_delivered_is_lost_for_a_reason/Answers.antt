use Rattle.pair_core.proofs.LostWhy.{why}
use Rattle.pair_core.proofs.laws.what_is_delivered_is_lost_for_a_reason.Goals as goal

pub returns : goal.returns
returns c start old new event reply drops = why start old.state drops.entries event reply drops.only
