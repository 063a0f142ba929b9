use Rattle.growing_history.specs.Examples.{two_clients}
use Rattle.book_tests.proofs.seats.a_step_is_told_across_threads.Given as goal

abbrev pub ghosts-in_two_threads : goal.ghosts-in_two_threads
ghosts-in_two_threads g a = record { word = a.opened; start = two_clients }
