use Rattle.std.proofs.Common.{refl, sym, ◌∙◌}
use Rattle.script_player.specs.Meaning.{is_silence}
use Rattle.script_player.proofs.player.Player.step.Goals as goal

pub returns-then-is_silent : goal.returns-then-is_silent
returns-then-is_silent c = λ no_memory. is_silence (sym c.is_silent.ensures ∙ c.if-is_silent.true) c.clear.ensures refl
