use Rattle.script_player.proofs.ScriptLemmas.{played-well, played-badly}
use Rattle.script_player.proofs.sim.sim.Goals as goal

pub returns-in-Ok : goal.returns-in-Ok
returns-in-Ok g c = played-well _ _ _ _ _ _ _ c.play-played.result c.play-played.ensures c.in-Ok.ensures c.tell.ensures

pub returns-in-Err : goal.returns-in-Err
returns-in-Err g c =
    played-badly c.args.source.now (g.O.Sink.written c.args.out.now) (g.O.Sink.written c.play-played.new.out)
    (g.O.Sink.written c.show.new.self) (g.E.Sink.written c.args.err.now) c.play-played.result c.play-played.ensures c.in-Err.ensures
