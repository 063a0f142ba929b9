use Rattle.std.proofs.KnownBytes.{Appends-trans}
use Rattle.std.specs.List.{flat_map}
use Rattle.pair_run.specs.RunPrinted.{answered_lines, entries_line, run_text}
use Rattle.pair_run.proofs.PrintingLemmas.{cut-short, front-written, not-written, written-out}
use Rattle.pair_run.proofs.printing.write_run.Goals as goal

pub returns-in_err-write_clients : goal.returns-in_err-write_clients
returns-in_err-write_clients g c =
    let old = g.O.Sink.written c.args.out.now in
    let new = g.O.Sink.written c.write_clients.new.out in
    not-written old new c.from_residual.result (run_text c.args.clients.now c.args.entries) c.from_residual.ensures.0
    (cut-short old new (flat_map answered_lines c.args.clients.now) (entries_line c.args.entries) c.in_err-write_clients.ensures)

pub returns-in_err-write_entries : goal.returns-in_err-write_entries
returns-in_err-write_entries g c =
    let old = g.O.Sink.written c.args.out.now in
    let mid = g.O.Sink.written c.write_clients.new.out in
    let new = g.O.Sink.written c.write_entries.new.out in
    not-written old new c.from_residual-in_err-write_entries.result (run_text c.args.clients.now c.args.entries)
    c.from_residual-in_err-write_entries.ensures.0
    (front-written old mid new (flat_map answered_lines c.args.clients.now) (entries_line c.args.entries) c.in_ok-write_clients.ensures
    c.in_err-write_entries.ensures)

pub returns : goal.returns
returns g c =
    let old = g.O.Sink.written c.args.out.now in
    let one = g.O.Sink.written c.write_clients.new.out in
    let two = g.O.Sink.written c.write_entries.new.out in
    written-out old two (g.O.Sink.written c.show.new.self) c.show.result (run_text c.args.clients.now c.args.entries)
    (Appends-trans old.bytes one.bytes two.bytes (flat_map answered_lines c.args.clients.now) (entries_line c.args.entries)
    c.in_ok-write_clients.ensures c.in_ok-write_entries.ensures) c.show.ensures
