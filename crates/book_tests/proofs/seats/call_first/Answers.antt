use Rattle.book_tests.proofs.CallsInTurn.{first-legal}
use Rattle.book_tests.proofs.seats.call_first.Goals as goal

pub step-requires-clause-legal : goal.step-requires-clause-legal
step-requires-clause-legal g c = first-legal _ _ _ c.requires.start c.requires.keeper c.requires.first
