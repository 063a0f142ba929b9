use Rattle.block_device.proofs.ReadBack.{other_sector, refused_changes_nothing, others_change_nothing}
use Rattle.block_device.proofs.laws.other_sectors.Goals as goal

pub returns-clause-refused : goal.returns-clause-refused
returns-clause-refused c = λ disk r room. refused_changes_nothing disk r room

pub returns-clause-other_types : goal.returns-clause-other_types
returns-clause-other_types c = λ disk r room other. others_change_nothing disk r room other

pub returns-clause-others : goal.returns-clause-others
returns-clause-others c = λ disk sector i new fits apart. other_sector disk sector i new fits apart
