use Rattle.growing_history.proofs.Moves.{begins}
use Rattle.growing_history.proofs.boot.Opened.new.Goals as goal

pub of_words-requires : goal.of_words-requires
of_words-requires c = begins
