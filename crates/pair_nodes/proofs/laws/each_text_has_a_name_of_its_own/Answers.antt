use Rattle.pair_nodes.proofs.Runs.{reach_names_texts}
use Rattle.pair_nodes.proofs.laws.each_text_has_a_name_of_its_own.Goals as goal

pub returns : goal.returns
returns c = reach_names_texts
