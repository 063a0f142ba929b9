use Rattle.std.proofs.Common.{refl, sym, ◌∙◌}
use Rattle.node_player.proofs.waits.go_live.Goals as goal

pub returns-in-Primary : goal.returns-in-Primary
returns-in-Primary g c =
    (_, c.refuse-in-Primary.ensures, rw (sym c.replace.ensures.value ∙ c.in-Primary.is) (c.in-Primary.primary, (refl, refl), refl))
