-- the answers so far were printed
use Rattle.std.proofs.Common.{take}
use Rattle.std.specs.List.{flat_map}
use Rattle.std.specs.Io.KnownBytes.{Appends}
use Rattle.script_player.specs.Printed.{reply_line}
use Rattle.pair_run.proofs.printing.write_replies.Given as goal

abbrev pub invariant-loop-reply : goal.invariant-loop-reply
invariant-loop-reply g l =
    Appends (g.O.Sink.written l.initial.out).bytes (g.O.Sink.written l.out).bytes (flat_map reply_line (take l.reply-index l.replies))
