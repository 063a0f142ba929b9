use Rattle.std.proofs.Common.{rules, arith}
use Rattle.pair_history.proofs.ArrivedLaws.{taken_in-count, taken_in-few}
use Rattle.pair_history.proofs.journal.Journal.taken_in.Goals as goal

pub count_arrivals-requires : goal.count_arrivals-requires
count_arrivals-requires c = search (arith, rules, taken_in-count, taken_in-few)

pub overflow_add-result : goal.overflow_add-result
overflow_add-result c = search (arith, rules, taken_in-count, taken_in-few)

pub returns-clause-count : goal.returns-clause-count
returns-clause-count c = search (arith, rules, taken_in-count)

pub returns-clause-fits : goal.returns-clause-fits
returns-clause-fits c = search (arith, rules, taken_in-count, taken_in-few)
