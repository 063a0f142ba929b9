use Rattle.std.specs.List.{flat_map}
use Rattle.std.proofs.Common.{subst}
use Rattle.script_player.specs.Printed.{reply_line}
use Rattle.script_player.specs.Streams.{IsPrinted}
use Rattle.pair_run.specs.RunPrinted.{client_title}
use Rattle.pair_run.proofs.PrintingLemmas.{cut-short, not-printed, printed-more}
use Rattle.pair_run.proofs.printing.write_client.Goals as goal

pub returns-in_err-write_title : goal.returns-in_err-write_title
returns-in_err-write_title g c =
    let old = g.O.Sink.written c.args.out.now in
    let new = g.O.Sink.written c.write_title.new.out in
    not-printed old new c.from_residual.result _ c.from_residual.ensures.0
    (cut-short old new (client_title c.args.answered.now.client) (flat_map reply_line c.args.answered.now.replies.items)
    c.in_err-write_title.ensures)

pub returns : goal.returns
returns g c =
    printed-more (g.O.Sink.written c.args.out.now) (g.O.Sink.written c.write_title.new.out) (g.O.Sink.written c.write_replies.new.out)
    c.write_replies.result (client_title c.args.answered.now.client) (flat_map reply_line c.args.answered.now.replies.items)
    c.in_ok-write_title.ensures
    (subst (λ replies. IsPrinted (g.O.Sink.written c.write_title.new.out) (g.O.Sink.written c.write_replies.new.out)
    c.write_replies.result (flat_map reply_line replies)) c.as_slice.ensures.value c.write_replies.ensures)
