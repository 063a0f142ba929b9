use Rattle.pair_history.specs.HistoryState.{start_state}
use Rattle.book_tests.proofs.beacon.answers.Given as goal

abbrev pub ghosts-play_beacon : goal.ghosts-play_beacon
ghosts-play_beacon g a = record { word = a.book.word; start = start_state 2 1 a.image.now a.book.clients }
