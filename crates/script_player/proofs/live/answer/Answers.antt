use Rattle.script_player.{specs.internal.Playing.stage_of, proofs.LiveLemmas.played-so}
use Rattle.script_player.proofs.live.answer.Goals as goal

pub returns : goal.returns
returns c = λ no_memory.
    played-so no_memory (stage_of c.args.player.now.world) c.args.line.now c.step.new.self.text.items (stage_of c.step.new.self.world)
    c.step.result (c.step.ensures no_memory)
