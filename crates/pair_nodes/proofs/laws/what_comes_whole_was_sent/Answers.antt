use Rattle.pair_nodes.proofs.Coming.{whole-reads}
use Rattle.pair_nodes.proofs.laws.what_comes_whole_was_sent.Goals as goal

pub returns : goal.returns
returns c = whole-reads
