use Rattle.script_player.proofs.ScriptLemmas.{shown-after}
use Rattle.script_player.proofs.sim.print.Goals as goal

pub returns-in_ok-put-in-Booted : goal.returns-in_ok-put-in-Booted
returns-in_ok-put-in-Booted g c = rw c.in-Booted.is
    (shown-after (g.O.Sink.written c.args.out.now) (g.O.Sink.written c.put.new.self) (g.O.Sink.written c.show.new.self) c.args.text.now
    c.in_ok-put-in-Booted.ensures.0.all c.show.result c.show.ensures)
