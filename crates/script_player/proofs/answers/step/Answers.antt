-- the reply of the steps is printed
use Rattle.std.proofs.Common.{rules}
use Rattle.pair_core.specs.Answering.{step_reply}
use Rattle.script_player.specs.{Lines.order, Meaning.Steps}
use Rattle.script_player.specs.declared.script.Command.TheVariants as commands
use Rattle.script_player.proofs.MeaningLemmas.{told-done}
use Rattle.script_player.proofs.answers.step.Goals as goal

pub returns : goal.returns
returns c = λ no_memory.
    told-done no_memory c.args.world.now c.run_steps-answer.new.self (order (commands.Steps c.args.count)) (step_reply c.run_steps-answer.result)
    c.tell_steps.result c.tell_steps.new.text.items c.tell_steps.ensures
    (λ printed told.
    let h : Steps no_memory c.args.world.now c.args.count printed c.run_steps-answer.new.self = search rules in h)
