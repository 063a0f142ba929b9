-- The machine at boot with no program is an empty image.
use Rattle.std.{proofs.Common.{[], refl, arith}, specs.Prelude.None}
use Rattle.backup_image.proofs.ImageLemmas.{some≢none, boot-image}
use Rattle.backup_image.proofs.image.Image.empty_with.Goals as goal

pub invariant_of-result : goal.invariant_of-result
invariant_of-result c =
    boot-image c.args.shape c.in-Ok.machine [] None (omega arith) c.in-Ok.ensures.guest c.in-Ok.ensures.outbox c.in-Ok.ensures.dirty
    c.in-Ok.ensures.settled
    c.in-Ok.ensures.written (λ e. c.in-Ok.ensures.guest) (λ at e. absurd (some≢none at None e refl)) _
