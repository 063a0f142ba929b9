use Rattle.std.specs.Prelude.{[]}
use Rattle.pair_history.specs.HistoryState.{start_state}
use Rattle.book_tests.proofs.rows.answers.Given as goal

abbrev pub ghosts-play_still : goal.ghosts-play_still
ghosts-play_still g a = record { word = a.book.word; start = start_state 1 1 [] a.book.clients }
