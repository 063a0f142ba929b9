use Rattle.checkpoint_stream.specs.Readings.{begun}
use Rattle.script_player.proofs.ListingLemmas.{listed-well, listed-badly}
use Rattle.script_player.proofs.check_stream.check_stream.Goals as goal

pub returns-in-Ok : goal.returns-in-Ok
returns-in-Ok g c =
    listed-well (begun c.args.shape 0) c.args.bytes.now (g.O.Sink.written c.args.out.now) (g.O.Sink.written c.list-listed.new.out)
    (g.O.Sink.written c.show.new.self) c.list-listed.result c.status_of.result c.list-listed.ensures c.in-Ok.ensures c.status_of.ensures

pub returns-in-Err : goal.returns-in-Err
returns-in-Err g c =
    listed-badly (begun c.args.shape 0) c.args.bytes.now (g.O.Sink.written c.args.out.now) (g.O.Sink.written c.list-listed.new.out)
    (g.O.Sink.written c.show.new.self) c.list-listed.result c.list-listed.ensures c.in-Err.ensures
