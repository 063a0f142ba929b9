use Rattle.pair_core.proofs.ReplicationRuns.{waits_event, waits_along, comes}
use Rattle.pair_core.proofs.laws.cut_guests_are_awaited.Goals as goal

pub returns-clause-event : goal.returns-clause-event
returns-clause-event c = waits_event

pub returns-clause-run : goal.returns-clause-run
returns-clause-run c = waits_along

pub returns-clause-commit : goal.returns-clause-commit
returns-clause-commit c generation number k g = comes generation number g k
