use Rattle.std.{proofs.Common.{ℕ, Global}, specs.declared.vec.Vec.Vec}
use Rattle.script_player.proofs.ImageLemmas.{made_fits}
use Rattle.script_player.proofs.player.image.Goals as goal

pub returns-in-Words-clause-fits : goal.returns-in-Words-clause-fits
returns-in-Words-clause-fits c =
    made_fits (λ (image : Vec ℕ Global). image.items) c.args.boot.now.pages c.deref.result.now c.image_of.result
    (rw c.deref.ensures.value (rw c.in-Words.is at c.requires.guest)) c.image_of.ensures

pub returns-in-Disk-clause-bytes : goal.returns-in-Disk-clause-bytes
returns-in-Disk-clause-bytes c = rw c.in-Disk.is c.disk_once.ensures.image
