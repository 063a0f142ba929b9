use Rattle.std.proofs.Common.{refl, sym, ◌∙◌}
use Rattle.node_player.proofs.runs.go_alone.Goals as goal

pub returns-in-Primary : goal.returns-in-Primary
returns-in-Primary g c =
    let said = c.left_alone-next.ensures in
    (said.0, said.1, rw (sym c.replace.ensures.value ∙ c.in-Primary.is) (c.left_alone-next.result.0, said.2, refl))
