use Rattle.hypervisor.specs.Opening.{start_with}
use Rattle.pair_threads.proofs.file_run.play.Given as goal

abbrev pub ghosts-play_named : goal.ghosts-play_named
ghosts-play_named g a = record { word = a.pair.word; start = start_with a.pair.guest a.pair.clients }
