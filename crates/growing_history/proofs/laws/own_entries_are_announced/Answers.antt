use Rattle.growing_history.proofs.OwnEntries.{history-own}
use Rattle.growing_history.proofs.laws.own_entries_are_announced.Goals as goal

pub returns : goal.returns
returns c = history-own
