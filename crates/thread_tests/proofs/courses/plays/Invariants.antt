use Rattle.hypervisor.specs.Opening.{start_with}
use Rattle.thread_tests.proofs.courses.plays.Given as goal

abbrev pub ghosts-name_and_go : goal.ghosts-name_and_go
ghosts-name_and_go g a = record { word = a.pair.word; start = start_with a.pair.guest a.pair.clients }
