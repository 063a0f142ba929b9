use Rattle.guest_rules.specs.laws.Sent.{few_sent}
use Rattle.guest_rules.proofs.laws.sent_frames.Goals as goal

pub returns-clause-frames : goal.returns-clause-frames
returns-clause-frames c g = (few_sent g).frames

pub returns-clause-most : goal.returns-clause-most
returns-clause-most c g = (few_sent g).most
