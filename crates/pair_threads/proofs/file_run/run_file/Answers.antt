use Rattle.pair_threads.proofs.RunLemmas.{shown-played, untold-played}
use Rattle.pair_threads.proofs.file_run.run_file.Goals as goal

pub returns-in-Ok : goal.returns-in-Ok
returns-in-Ok g c =
    shown-played c.args.file c.in-Ok.played.clients.items c.in-Ok.played.entries c.in-Ok.played.is_whole (g.O.Sink.written c.args.out.now)
    (g.O.Sink.written c.print.new.out) c.print.result c.in-Ok.ensures.told c.print.ensures

pub returns-in-Err : goal.returns-in-Err
returns-in-Err g c =
    untold-played c.args.file c.in-Err.why (g.O.Sink.written c.args.out.now) (g.O.Sink.written c.refuse.new.out) c.refuse.result
    c.in-Err.ensures.why c.refuse.ensures.said c.refuse.ensures.status
