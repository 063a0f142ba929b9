use Rattle.std.proofs.Common.{length}
use Rattle.paged_memory.proofs.ClearedLemmas.{AreCleared}
use Rattle.paged_memory.proofs.memory.clear_pages.Given as goal

abbrev pub invariant-loop-page : goal.invariant-loop-page
invariant-loop-page l = AreCleared l.bytes.items l.touched.items (length l.fn.touched.items) l.page
