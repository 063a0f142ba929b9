use Rattle.std.proofs.Common.{refl}
use Rattle.pair_nodes.proofs.HalfLaws.{commit_happens, live_happens}
use Rattle.pair_nodes.proofs.halves.what_a_standby_does_may_happen.Goals as goal

pub returns-clause-piece : goal.returns-clause-piece
returns-clause-piece c = λ s bytes. (refl, refl)

pub returns-clause-restart : goal.returns-clause-restart
returns-clause-restart c = λ s. (refl, refl)

pub returns-clause-commit : goal.returns-clause-commit
returns-clause-commit c = commit_happens

pub returns-clause-go_live : goal.returns-clause-go_live
returns-clause-go_live c = λ s free. (live_happens s free, refl)
