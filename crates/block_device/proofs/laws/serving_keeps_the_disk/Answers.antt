use Rattle.block_device.proofs.Kept.{disk_served-length, disk_served-rules, disk_served-capacity, disk_served-disk}
use Rattle.block_device.proofs.laws.serving_keeps_the_disk.Goals as goal

pub returns-clause-sectors : goal.returns-clause-sectors
returns-clause-sectors c = λ ram state disk. disk_served-capacity ram state disk

pub returns-clause-rules : goal.returns-clause-rules
returns-clause-rules c = λ ram state disk is. disk_served-disk ram state disk is

pub returns-clause-memory : goal.returns-clause-memory
returns-clause-memory c = λ ram state disk h. disk_served-length ram state disk h

pub returns-clause-record : goal.returns-clause-record
returns-clause-record c = λ ram state disk h. disk_served-rules ram state disk h
