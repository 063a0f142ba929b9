use Rattle.std.proofs.{Common.{rules, arith}, lemmas.List.{length-append, map-append}}
use Rattle.pair_history.specs.laws.Joined.{joined-push}
use Rattle.pair_history.proofs.journal.Journal.seal_empty.Goals as goal

pub invariant_of-self-2 : goal.invariant_of-self-2
invariant_of-self-2 c = search (arith, rules, joined-push, length-append, map-append)
