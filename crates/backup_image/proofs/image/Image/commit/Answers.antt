-- What is staged stands over the image, and the image stands at it afterwards.
use Rattle.std.proofs.Common.{sym, ◌∙◌}
use Rattle.backup_image.proofs.ImageLemmas.{settled-again, small, staged-ram, staged-sectors, committed-image}
use Rattle.backup_image.proofs.image.Image.commit.Goals as goal

pub apply-requires-clause-memory : goal.apply-requires-clause-memory
apply-requires-clause-memory c =
    staged-ram c.self.inside.shape c.self.inside.machine c.self.inside.standing c.self.inside.staged c.self.inside.kept.sent
    c.in-Some.checkpoint c.self.invariant (sym c.take.ensures.value ∙ c.in-Some.is)

pub apply-requires-clause-disk : goal.apply-requires-clause-disk
apply-requires-clause-disk c =
    staged-sectors c.self.inside.shape c.self.inside.machine c.self.inside.standing c.self.inside.staged c.self.inside.kept.sent
    c.in-Some.checkpoint c.self.invariant (sym c.take.ensures.value ∙ c.in-Some.is)

pub invariant_of-self-2 : goal.invariant_of-self-2
invariant_of-self-2 c =
    committed-image c.self.inside.shape c.self.inside.machine c.self.inside.standing c.self.inside.staged c.self.inside.kept.sent
    c.in-Some.checkpoint c.self.invariant (sym c.take.ensures.value ∙ c.in-Some.is) c.apply.new.machine c.generation.result
    c.number.result c.take.new.self _
    (settled-again c.in-Some.checkpoint.shape c.apply.new.machine _ c.apply.ensures.machine) c.apply.ensures.same_pages
    c.apply.ensures.same_sectors
    (small c.number.result c.in-Some.checkpoint.number c.number.ensures.value c.number.ensures.canonical.last_number) c.take.ensures.after
