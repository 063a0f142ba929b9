use Rattle.paged_memory.proofs.ListedLemmas.{least_of_none, one_looked_at, all_looked_at}
use Rattle.paged_memory.proofs.listed.least_from.Goals as goal

pub loop-number-init : goal.loop-number-init
loop-number-init c = least_of_none c.args.numbers.now c.args.from c.args.end c.requires

pub loop-number-preserved : goal.loop-number-preserved
loop-number-preserved c =
    one_looked_at c.args.numbers.now c.args.from c.args.end c.loop-number.number-index c.loop-number.least c.nearer-least.result
    c.loop-number-test.true c.nearer-least.ensures c.loop-number.invariant

pub returns : goal.returns
returns c =
    all_looked_at c.args.numbers.now c.args.from c.args.end c.loop-number.number-index c.loop-number.least c.loop-number-test.false
    c.loop-number.invariant
