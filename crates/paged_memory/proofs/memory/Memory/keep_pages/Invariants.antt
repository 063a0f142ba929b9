use Rattle.paged_memory.proofs.SeenLemmas.{KeptBelow}
use Rattle.paged_memory.proofs.memory.Memory.keep_pages.Given as goal

abbrev pub invariant-loop-page : goal.invariant-loop-page
invariant-loop-page l = KeptBelow l.fn.self l.self l.from l.page
