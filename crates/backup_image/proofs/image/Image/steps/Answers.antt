-- An empty image has made no steps.
use Rattle.std.proofs.Common.{[], ap, ◌∙◌}
use Rattle.backup_image.{specs.Images.ImageState, proofs.ImageLemmas.zero_steps}
use Rattle.backup_image.proofs.image.Image.steps.Goals as goal

pub returns-clause-empty : goal.returns-clause-empty
returns-clause-empty c =
    λ e. c.steps.ensures
    ∙ zero_steps c.self.inside.shape.pages c.self.inside.shape.sectors [] c.self.inside.machine.guest
    (c.self.invariant.empty (ap (λ (i : ImageState). i.stands_at) c.self.view_is ∙ e))
