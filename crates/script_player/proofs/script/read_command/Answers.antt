use Rattle.std.proofs.Common.{◌∙◌}
use Rattle.script_player.proofs.CommandLemmas.{command-spelled, command_of-spelled}
use Rattle.script_player.proofs.script.read_command.Goals as goal

pub returns-clause-found : goal.returns-clause-found
returns-clause-found c = command-spelled c.args.text.now c.first_form.result c.first_form.ensures

pub returns-clause-only : goal.returns-clause-only
returns-clause-only c command h = c.first_form.ensures ∙ command_of-spelled c.args.text.now command h
