use Rattle.std.proofs.Common.{List, inl, inr, refl, subst}
use Rattle.script_player.specs.Streams.{Writes, WritesFront}
use Rattle.pair_run.specs.RunPrinted.{run_text}
use Rattle.pair_run.specs.declared.printing.Answered.{Answered}
use Rattle.pair_threads.proofs.file_run.print.Goals as goal

pub returns-in-Ok : goal.returns-in-Ok
returns-in-Ok g c =
    let old = g.O.Sink.written c.args.out.now in
    let new = g.O.Sink.written c.write_run.new.out in
    let entries = c.args.played.now.entries in
    inl (subst (λ (items : List Answered). Writes old new (run_text items entries)) c.as_slice.ensures.value c.in-Ok.ensures, c.status_of.ensures)

pub returns-in-Err : goal.returns-in-Err
returns-in-Err g c =
    let old = g.O.Sink.written c.args.out.now in
    let new = g.O.Sink.written c.write_run.new.out in
    let entries = c.args.played.now.entries in
    inr (subst (λ (items : List Answered). WritesFront old new (run_text items entries)) c.as_slice.ensures.value c.in-Err.ensures, refl)
