use Rattle.script_player.proofs.LineLemmas.{first-line, last-line}
use Rattle.script_player.proofs.sim.first_line.Goals as goal

pub returns-in-Some-clause-lines : goal.returns-in-Some-clause-lines
returns-in-Some-clause-lines c = first-line c.args.text.now c.in-Some.end c.in-Some.ensures

pub returns-in-None-clause-lines : goal.returns-in-None-clause-lines
returns-in-None-clause-lines c = last-line c.args.text.now c.in-None.ensures
