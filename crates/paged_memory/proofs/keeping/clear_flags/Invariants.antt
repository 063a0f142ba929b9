use Rattle.std.proofs.Common.{length}
use Rattle.paged_memory.proofs.ListedLemmas.{AreAhead}
use Rattle.paged_memory.proofs.keeping.clear_flags.Given as goal

abbrev pub invariant-loop-page : goal.invariant-loop-page
invariant-loop-page l = AreAhead l.flags.items l.pages l.page-index (length l.fn.flags.items)
