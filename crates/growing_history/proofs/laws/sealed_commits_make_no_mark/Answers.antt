use Rattle.growing_history.proofs.Unmarked.{others-unmarked, own-commit-unmarked, none-marked}
use Rattle.growing_history.proofs.laws.sealed_commits_make_no_mark.Goals as goal

pub returns-clause-others : goal.returns-clause-others
returns-clause-others c = others-unmarked

pub returns-clause-own : goal.returns-clause-own
returns-clause-own c = own-commit-unmarked

pub returns-clause-start : goal.returns-clause-start
returns-clause-start c = none-marked
