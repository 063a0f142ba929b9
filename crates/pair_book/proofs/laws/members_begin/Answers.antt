use Rattle.pair_book.proofs.StartSeats.{start-runs, start-stands, new-stands}
use Rattle.pair_book.proofs.laws.members_begin.Goals as goal

pub returns-clause-runner : goal.returns-clause-runner
returns-clause-runner c = start-runs

pub returns-clause-backup : goal.returns-clause-backup
returns-clause-backup c = start-stands

pub returns-clause-new_backup : goal.returns-clause-new_backup
returns-clause-new_backup c = new-stands
