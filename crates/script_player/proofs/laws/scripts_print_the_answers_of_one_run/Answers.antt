use Rattle.std.proofs.Common.{refl, []}
use Rattle.script_player.proofs.RunLemmas.{one-run}
use Rattle.script_player.proofs.laws.scripts_print_the_answers_of_one_run.Goals as goal

pub returns : goal.returns
returns c no_memory source printed ending means = one-run means refl [] tt
