use Rattle.epoch_snapshot.specs.laws.Pages.{block_in-page}
use Rattle.epoch_snapshot.proofs.FullLemmas.{own-blocks}
use Rattle.epoch_snapshot.proofs.laws.pages_are_their_blocks.Goals as goal

pub returns-clause-page : goal.returns-clause-page
returns-clause-page c = block_in-page

pub returns-clause-own : goal.returns-clause-own
returns-clause-own c = own-blocks
