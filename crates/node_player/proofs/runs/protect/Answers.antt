use Rattle.std.proofs.Common.{refl, sym, ◌∙◌}
use Rattle.node_player.proofs.runs.protect.Goals as goal

pub returns-in-Primary : goal.returns-in-Primary
returns-in-Primary g c =
    let said = c.protected-next.ensures in
    (said.0, said.1, rw (sym c.replace.ensures.value ∙ c.in-Primary.is) (c.protected-next.result.0, said.2, refl))
