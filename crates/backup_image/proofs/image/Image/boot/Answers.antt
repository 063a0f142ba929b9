-- The machine at boot is an image.
use Rattle.std.{proofs.Common.{◌<◌, ◌^◌, lit<, refl, subst}, specs.Prelude.{Option, Some}}
use Rattle.backup_image.{specs.declared.standing.Standing.Standing, proofs.ImageLemmas.{some≢none, number_in, boot-image}}
use Rattle.backup_image.proofs.image.Image.boot.Goals as goal

first : Standing
first = record { generation = 1; number = 0 }

pub invariant_of-result : goal.invariant_of-result
unfolding first
invariant_of-result c =
    boot-image c.args.shape c.in-Ok.machine c.args.image.now (Some first) c.requires c.in-Ok.ensures.guest c.in-Ok.ensures.outbox
    c.in-Ok.ensures.dirty c.in-Ok.ensures.settled
    c.in-Ok.ensures.written (λ e. absurd (some≢none first (Some first) refl e))
    (λ at e. subst (λ (o : Option Standing). number_in o < 2 ^ 62) e (lit< tt)) _
