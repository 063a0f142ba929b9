use Rattle.net_device.proofs.Kept.{served-rules, received-rules, served-length, received-length}
use Rattle.net_device.proofs.laws.kept_rules.Goals as goal

pub returns-clause-sending : goal.returns-clause-sending
returns-clause-sending c ram net h = served-rules ram net h

pub returns-clause-receiving : goal.returns-clause-receiving
returns-clause-receiving c ram net frame h = received-rules ram net frame h

pub returns-clause-sending_memory : goal.returns-clause-sending_memory
returns-clause-sending_memory c ram net h = served-length ram net h

pub returns-clause-receiving_memory : goal.returns-clause-receiving_memory
returns-clause-receiving_memory c ram net frame h = received-length ram net frame h
