use Rattle.std.proofs.Common.{arith}
use Rattle.net_device.proofs.Few.{few_served}
use Rattle.net_device.proofs.laws.sent_frames.Goals as goal

pub returns-clause-frames : goal.returns-clause-frames
returns-clause-frames c ram net = (few_served ram net).frames

pub returns-clause-most : goal.returns-clause-most
returns-clause-most c ram net = omega (arith, (few_served ram net).room)
