use Rattle.paged_memory.specs.Listed.{IsLeast}
use Rattle.paged_memory.proofs.listed.least_from.Given as goal

abbrev pub invariant-loop-number : goal.invariant-loop-number
invariant-loop-number l = IsLeast l.numbers l.from l.end l.number-index l.least
