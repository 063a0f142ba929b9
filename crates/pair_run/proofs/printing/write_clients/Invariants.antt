-- the clients so far were printed
use Rattle.std.proofs.Common.{take}
use Rattle.std.specs.List.{flat_map}
use Rattle.std.specs.Io.KnownBytes.{Appends}
use Rattle.pair_run.specs.RunPrinted.{answered_lines}
use Rattle.pair_run.proofs.printing.write_clients.Given as goal

abbrev pub invariant-loop-answered : goal.invariant-loop-answered
invariant-loop-answered g l =
    Appends (g.O.Sink.written l.initial.out).bytes (g.O.Sink.written l.out).bytes
    (flat_map answered_lines (take l.answered-index l.clients))
