use Rattle.std.proofs.Common.{refl, sym, subst}
use Rattle.pair_run.specs.declared.run_file.Unread.{Unread}
use Rattle.script_player.specs.Meaning.{bad_line}
use Rattle.pair_threads.specs.internal.Shown.{IsTold}
use Rattle.pair_threads.proofs.RunLemmas.{put-said}
use Rattle.pair_threads.proofs.file_run.tell.Goals as goal

pub returns-in-Bad : goal.returns-in-Bad
returns-in-Bad g c =
    let out = g.O.Sink.written c.args.out.now in
    let old = g.E.Sink.written c.args.err.now in
    let new = g.E.Sink.written c.tell_bad_line.new.err in
    subst (λ (why : Unread). IsTold why out out old new 1) (sym c.in-Bad.is)
    (refl, put-said old new c.tell_bad_line.result (bad_line c.in-Bad.number) c.tell_bad_line.ensures, refl)

pub returns-in-NoMemory : goal.returns-in-NoMemory
returns-in-NoMemory g c =
    let old = g.O.Sink.written c.args.out.now in
    let new = g.O.Sink.written c.refuse.new.out in
    let err = g.E.Sink.written c.args.err.now in
    subst (λ (why : Unread). IsTold why old new err err c.refuse.result) (sym c.in-NoMemory.is)
    (c.refuse.ensures.said, refl, c.refuse.ensures.status)
