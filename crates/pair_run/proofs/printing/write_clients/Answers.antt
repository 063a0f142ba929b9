use Rattle.std.proofs.Common.{arith}
use Rattle.pair_run.specs.RunPrinted.{answered_lines}
use Rattle.pair_run.proofs.PrintingLemmas.{cut-at-item}
use Rattle.pair_run.proofs.printing.write_clients.Goals as goal

pub returns-in_err-write_client : goal.returns-in_err-write_client
returns-in_err-write_client g c =
    cut-at-item (g.O.Sink.written c.args.out.now) (g.O.Sink.written c.loop-answered.out) (g.O.Sink.written c.write_client.new.out)
    c.from_residual.result answered_lines c.args.clients.now c.loop-answered.answered-index c.answered-item.result (omega arith)
    c.answered-item.is c.loop-answered.invariant c.in_err-write_client.ensures c.from_residual.ensures.0
