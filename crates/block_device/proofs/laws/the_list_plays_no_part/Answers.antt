use Rattle.block_device.proofs.ListApart.{memory_apart, state_apart, bytes_apart}
use Rattle.block_device.proofs.laws.the_list_plays_no_part.Goals as goal

pub returns-clause-memory : goal.returns-clause-memory
returns-clause-memory c = λ ram state bytes one other. memory_apart ram state bytes one other

pub returns-clause-state : goal.returns-clause-state
returns-clause-state c = λ ram state bytes one other. state_apart ram state bytes one other

pub returns-clause-sectors : goal.returns-clause-sectors
returns-clause-sectors c = λ ram state bytes one other. bytes_apart ram state bytes one other
