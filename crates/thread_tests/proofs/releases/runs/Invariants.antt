use Rattle.hypervisor.specs.Opening.{start_with}
use Rattle.thread_tests.proofs.releases.runs.Given as goal

abbrev pub ghosts-run : goal.ghosts-run
ghosts-run g a = record { word = a.pair.word; start = start_with a.pair.guest a.pair.clients }
