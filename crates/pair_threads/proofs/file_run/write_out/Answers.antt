use Rattle.pair_threads.proofs.RunLemmas.{put-shown}
use Rattle.pair_threads.proofs.file_run.write_out.Goals as goal

pub returns : goal.returns
returns g c =
    put-shown (g.O.Sink.written c.args.out.now) (g.O.Sink.written c.put.new.self) (g.O.Sink.written c.show.new.self) c.show.result _
    c.in_ok-put.ensures.0 c.show.ensures
