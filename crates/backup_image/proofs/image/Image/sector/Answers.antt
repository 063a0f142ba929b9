-- An empty image has zeros.
use Rattle.std.proofs.Common.{◌≡◌, [], ap, ◌∙◌, arith}
use Rattle.backup_image.{specs.Images.ImageState, proofs.ImageLemmas.zero_sector}
use Rattle.backup_image.proofs.image.Image.sector.Goals as goal

pub returns-clause-empty : goal.returns-clause-empty
returns-clause-empty c =
    let count : c.self.inside.shape.sectors ≡ c.args.self.now.shape.sectors = ap (λ (i : ImageState). i.shape.sectors) c.self.view_is in
    λ e. c.sector.ensures
    ∙ zero_sector c.self.inside.shape.pages c.self.inside.shape.sectors c.args.sector [] c.self.inside.machine.guest
    (omega (arith, count, c.requires))
    (c.self.invariant.empty (ap (λ (i : ImageState). i.stands_at) c.self.view_is ∙ e))
