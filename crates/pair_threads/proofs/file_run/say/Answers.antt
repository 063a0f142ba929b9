use Rattle.pair_threads.proofs.RunLemmas.{written-said}
use Rattle.pair_threads.proofs.file_run.say.Goals as goal

pub returns-clause-said : goal.returns-clause-said
returns-clause-said g c = written-said _ _ c.write_out.result _ c.write_out.ensures
