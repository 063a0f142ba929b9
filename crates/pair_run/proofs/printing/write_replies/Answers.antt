use Rattle.std.proofs.Common.{arith}
use Rattle.script_player.specs.Printed.{reply_line}
use Rattle.pair_run.proofs.PrintingLemmas.{cut-at-item}
use Rattle.pair_run.proofs.printing.write_replies.Goals as goal

pub returns-in_err-write_answer : goal.returns-in_err-write_answer
returns-in_err-write_answer g c =
    cut-at-item (g.O.Sink.written c.args.out.now) (g.O.Sink.written c.loop-reply.out) (g.O.Sink.written c.write_answer.new.out)
    c.from_residual.result reply_line c.args.replies.now c.loop-reply.reply-index c.reply-item.result (omega arith) c.reply-item.is
    c.loop-reply.invariant c.in_err-write_answer.ensures c.from_residual.ensures.0
