use Rattle.std.proofs.Common.{refl}
use Rattle.pair_threads.specs.Runs.{played}
use Rattle.pair_threads.proofs.LineLemmas.{file-names}
use Rattle.pair_threads.proofs.RunLemmas.{told-run}
use Rattle.pair_threads.proofs.file_run.run.Goals as goal

pub run_file-requires-clause-clients : goal.run_file-requires-clause-clients
run_file-requires-clause-clients g c = λ lives outlives. file-names c.args.source.now c.in-Ok.file c.in-Ok.ensures.means

pub returns-in-Ok : goal.returns-in-Ok
returns-in-Ok g c = played c.in-Ok.file c.in-Ok.ensures.means c.run_file.ensures refl

pub returns-in-Err : goal.returns-in-Err
returns-in-Err g c =
    told-run c.args.source.now c.in-Err.why (g.O.Sink.written c.args.out.now) (g.O.Sink.written c.tell.new.out)
    (g.E.Sink.written c.args.err.now) (g.E.Sink.written c.tell.new.err) c.tell.result c.in-Err.ensures.means c.tell.ensures
