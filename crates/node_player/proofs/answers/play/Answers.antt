use Rattle.std.proofs.Common.{refl, sym, ◌∙◌}
use Rattle.node_player.specs.{Lines.line_of, Meaning.{answers, finds_no_memory}}
use Rattle.node_player.proofs.answers.play.Goals as goal

pub returns-in-Ok-Some : goal.returns-in-Ok-Some
returns-in-Ok-Some g c =
    let said = c.answer.ensures in
    let loud = sym c.is_silent.ensures ∙ c.if-is_silent.false in
    (said.0, said.1, answers (line_of c.in-Ok-Some.line) loud (rw c.in-Ok-Some.field-0-is at c.in-Ok-Some.ensures.found) said.2)

pub returns-in-Err : goal.returns-in-Err
returns-in-Err g c =
    let said = c.in-Err.ensures.err in
    let loud = sym c.is_silent.ensures ∙ c.if-is_silent.false in
    (_, c.refuse.ensures, finds_no_memory said.0 loud said.1 said.2 refl refl)
