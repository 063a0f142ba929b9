use Rattle.growing_history.specs.Examples.{two_clients}
use Rattle.book_tests.proofs.seats.two_clients_tell_each_other.Given as goal

abbrev pub ghosts-in_one_thread : goal.ghosts-in_one_thread
ghosts-in_one_thread g a = record { word = a.opened; start = two_clients }
