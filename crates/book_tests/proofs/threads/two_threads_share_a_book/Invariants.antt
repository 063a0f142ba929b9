use Rattle.std.specs.Prelude.{[]}
use Rattle.pair_history.specs.HistoryState.{start_state}
use Rattle.book_tests.proofs.threads.two_threads_share_a_book.Given as goal

abbrev pub ghosts-share : goal.ghosts-share
ghosts-share g a = record { word = a.book.word; start = start_state 1 1 [] a.book.clients }
