use Rattle.hypervisor.proofs.OpeningLaws.{new-stands-with, may-exhaust}
use Rattle.hypervisor.proofs.warden.Warden.protect.Goals as goal

pub returns-in_default-clause-why : goal.returns-in_default-clause-why
returns-in_default-clause-why g c = may-exhaust

pub new-requires-clause-stands : goal.new-requires-clause-stands
new-requires-clause-stands g c =
    new-stands-with g.P.Pair.start c.in-Ok-seat.seat c.self.inside.shape c.in-Ok-empty_image.image c.members_begin.ensures.new_backup c.in-Ok-empty_image.ensures
    c.in-Ok-seat.ensures.seat
