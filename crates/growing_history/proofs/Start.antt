-- No step at all is a legal list.
use Rattle.std.proofs.Common.{[]}
use Rattle.pair_history.specs.HistoryState.{HistoryState}
use Rattle.growing_history.specs.LogState.{LegalSteps}

pub legal-nil : (h : HistoryState) → LegalSteps h []
unfolding LegalSteps
legal-nil h = tt
