use Rattle.epoch_snapshot.specs.laws.{Pages.changed_pages-next, Sectors.used-next}
use Rattle.epoch_snapshot.proofs.laws.changes_are_found_in_turn.Goals as goal

pub returns-clause-pages : goal.returns-clause-pages
returns-clause-pages c = changed_pages-next

pub returns-clause-sectors : goal.returns-clause-sectors
returns-clause-sectors c = used-next
