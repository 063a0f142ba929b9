use Rattle.book_tests.proofs.CallsInTurn.{second-legal}
use Rattle.book_tests.proofs.seats.call_second.Goals as goal

pub step-requires-clause-legal : goal.step-requires-clause-legal
step-requires-clause-legal g c = second-legal _ _ _ c.requires.start c.requires.keeper c.requires.second
