use Rattle.pair_history.specs.laws.GoingLive.{go_live-asked}
use Rattle.pair_history.proofs.laws.no_failure_loses_a_sent_frame.Goals as goal

pub returns-clause-goes_live : goal.returns-clause-goes_live
returns-clause-goes_live c s kept h = go_live-asked s kept h.clients h.fit
