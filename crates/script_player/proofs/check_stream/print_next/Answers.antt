-- where a write fails, a beginning of the line is printed
use Rattle.std.proofs.Common.{None}
use Rattle.script_player.specs.Listing.{IsPrinted}
use Rattle.script_player.proofs.ListingLemmas.{no_memory-last}
use Rattle.script_player.specs.laws.Options.{failed}
use Rattle.script_player.proofs.check_stream.print_next.Goals as goal

pub returns-in_err-put-in-Ok-clause-printed : goal.returns-in_err-put-in-Ok-clause-printed
returns-in_err-put-in-Ok-clause-printed g c =
    let no_memory = g.O.Sink.no_memory in
    let r = c.args.reader.now in
    let new = c.spell_next.new.reader in
    let o = g.O.Sink.written c.args.out.now in
    let o' = g.O.Sink.written c.put.new.self in
    failed _ (λ x. IsPrinted no_memory c.args.file_bytes r c.args.rest.now x new o o') c.from_residual.result c.from_residual.ensures.1
    (λ e is. (_, c.in-Ok.found, new, c.in-Ok.ensures.spelled no_memory, rw c.as_slice.ensures.value at c.in_err-put-in-Ok.ensures))

pub returns-in_err-refuse-in-Err-clause-printed : goal.returns-in_err-refuse-in-Err-clause-printed
returns-in_err-refuse-in-Err-clause-printed g c =
    let no_memory = g.O.Sink.no_memory in
    let r = c.args.reader.now in
    let rest = c.args.rest.now in
    let o = g.O.Sink.written c.args.out.now in
    let o' = g.O.Sink.written c.refuse.new.self in
    failed _ (λ x. IsPrinted no_memory c.args.file_bytes r rest x c.spell_next.new.reader o o') c.from_residual-in_err-refuse-in-Err.result
    c.from_residual-in_err-refuse-in-Err.ensures.1
    (λ e is. (_, None, r, no_memory-last no_memory c.args.file_bytes r rest, c.in_err-refuse-in-Err.ensures))

pub returns-in_ok-refuse-in-Err-clause-printed : goal.returns-in_ok-refuse-in-Err-clause-printed
returns-in_ok-refuse-in-Err-clause-printed g c =
    (_, no_memory-last g.O.Sink.no_memory c.args.file_bytes c.args.reader.now c.args.rest.now, c.in_ok-refuse-in-Err.ensures.0.all)
