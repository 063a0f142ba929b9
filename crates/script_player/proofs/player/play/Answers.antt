use Rattle.std.proofs.Common.{refl}
use Rattle.script_player.specs.{Lines.line_of, Meaning.{no_line, finds_no_memory}}
use Rattle.script_player.proofs.MeaningLemmas.{done-step}
use Rattle.script_player.proofs.player.play.Goals as goal

pub returns-in-Ok-Some : goal.returns-in-Ok-Some
returns-in-Ok-Some c = λ no_memory.
    let said = rw c.in-Ok-Some.field-0-is at c.in-Ok-Some.ensures.found in
    let done = rw c.as_mut.ensures.value at (c.answer.ensures no_memory) in
    done-step no_memory c.args.world.now.value c.answer.new.world c.args.line.now (line_of c.in-Ok-Some.line) c.answer.result c.answer.new.text.items c.requires.loud said done

pub returns-in-Ok-None : goal.returns-in-Ok-None
returns-in-Ok-None c = λ no_memory. (
  no_line c.args.world.now.value c.requires.loud refl (rw c.in-Ok-None.field-0-is at c.in-Ok-None.ensures.none),
  c.requires.empty,
  refl,
)

pub returns-in-Err : goal.returns-in-Err
returns-in-Err c = λ no_memory.
    let said = c.in-Err.ensures.err in finds_no_memory c.args.world.now.value said.0 said.1 refl said.2 refl refl
