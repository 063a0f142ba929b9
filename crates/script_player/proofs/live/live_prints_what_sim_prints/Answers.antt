use Rattle.std.proofs.Common.{refl}
use Rattle.script_player.{specs.Meaning.finished, proofs.LiveLemmas.{same-by-lines, same-by-file}}
use Rattle.script_player.proofs.live.live_prints_what_sim_prints.Goals as goal

pub returns-clause-file : goal.returns-clause-file
returns-clause-file c = λ no_memory stage number lines text m short. same-by-lines stage number lines text finished m refl short

pub returns-clause-session : goal.returns-clause-session
returns-clause-session c = λ no_memory stage last number lines text m. same-by-file stage last number lines text m
