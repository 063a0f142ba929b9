use Rattle.std.{proofs.Common.{refl, ap, ◌++◌, ◌∙◌}, specs.Prelude.codes}
use Rattle.script_player.specs.Meaning.{boots}
use Rattle.script_player.proofs.player.Player.boot.Goals as goal

pub returns-in-Ok-Some : goal.returns-in-Ok-Some
returns-in-Ok-Some c = λ no_memory.
    let ready = rw c.in-Ok-Some.field-0-is at c.in-Ok-Some.ensures.some in
    boots ready.0 c.in-Ok-Some.world.value refl ready.1 ready.2
    (c.add.ensures.items ∙ ap (λ t. t ++ codes "booted\n") c.requires.empty) refl
