use Rattle.pair_core.proofs.AckLaws.{all_accounted, left_since_boot}
use Rattle.pair_core.proofs.laws.acknowledged_frames_have_left.Goals as goal

pub returns-clause-since_boot : goal.returns-clause-since_boot
returns-clause-since_boot c = left_since_boot

pub returns-clause-accounted : goal.returns-clause-accounted
returns-clause-accounted c = all_accounted
