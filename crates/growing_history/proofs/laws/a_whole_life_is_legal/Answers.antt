use Rattle.growing_history.proofs.Lives.{life-legal, life-unmarked, marked-legal}
use Rattle.growing_history.proofs.laws.a_whole_life_is_legal.Goals as goal

pub returns-clause-life : goal.returns-clause-life
returns-clause-life c = life-legal

pub returns-clause-unmarked : goal.returns-clause-unmarked
returns-clause-unmarked c = life-unmarked

pub returns-clause-marked : goal.returns-clause-marked
returns-clause-marked c = marked-legal
