-- The blocks of the mask from this one on are to come.
use Rattle.backup_image.proofs.PutLemmas.{PutsPage}
use Rattle.backup_image.proofs.apply.put_page.Given as goal

abbrev pub invariant-loop-block : goal.invariant-loop-block
invariant-loop-block l = PutsPage l.fn.machine l.page l.mask l.blocks l.block l.machine l.next
