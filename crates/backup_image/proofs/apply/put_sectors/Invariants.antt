-- The sectors from this one on are to come.
use Rattle.backup_image.proofs.PutLemmas.{PutsSectors}
use Rattle.backup_image.proofs.apply.put_sectors.Given as goal

abbrev pub invariant-loop-change : goal.invariant-loop-change
invariant-loop-change l = PutsSectors l.fn.machine l.sectors l.change-index l.machine
