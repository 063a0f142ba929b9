use Rattle.paged_memory.proofs.FlagLemmas.{few_marked}
use Rattle.std.proofs.Common.{arith}
use Rattle.paged_memory.proofs.memory.touch.Goals as goal

pub returns : goal.returns
returns c = few_marked c.args.flags.now.items c.args.at 64 (omega arith) (omega arith) c.requires.within
