-- The pages from this one on are to come.
use Rattle.backup_image.proofs.PutLemmas.{PutsPages}
use Rattle.backup_image.proofs.apply.put_pages.Given as goal

abbrev pub invariant-loop-change : goal.invariant-loop-change
invariant-loop-change l = PutsPages l.fn.machine l.pages l.blocks l.change-index l.machine l.rest
