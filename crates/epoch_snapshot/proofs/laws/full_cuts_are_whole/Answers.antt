use Rattle.epoch_snapshot.proofs.FullLemmas.{full-canonical, full-image, full-masks, full-blocks, full-sectors}
use Rattle.epoch_snapshot.proofs.laws.full_cuts_are_whole.Goals as goal

pub returns-clause-canonical : goal.returns-clause-canonical
returns-clause-canonical c = full-canonical

pub returns-clause-image : goal.returns-clause-image
returns-clause-image c = λ m g k base cut. full-image m g k cut base

pub returns-clause-masks : goal.returns-clause-masks
returns-clause-masks c = full-masks

pub returns-clause-blocks : goal.returns-clause-blocks
returns-clause-blocks c = full-blocks

pub returns-clause-sectors : goal.returns-clause-sectors
returns-clause-sectors c = full-sectors
