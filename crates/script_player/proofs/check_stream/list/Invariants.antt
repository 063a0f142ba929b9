-- what was printed so far, followed by what the bytes that are left print, is what the file prints
use Rattle.std.{proofs.Common.{◌≡◌, List, ℕ, false, length}, specs.Io.KnownBytes.Appends}
use Rattle.checkpoint_stream.specs.Readings.{begun, is_closed}
use Rattle.script_player.proofs.ListingLemmas.{Follows}
use Rattle.script_player.proofs.check_stream.list.Given as goal

abbrev pub invariant-loop-rest : goal.invariant-loop-rest
invariant-loop-rest g l =
    (is_closed l.reader.place ≡ false)
    × ((printed : List ℕ) × Appends (g.O.Sink.written l.initial.out).bytes (g.O.Sink.written l.out).bytes printed
    × Follows g.O.Sink.no_memory (begun l.fn.shape 0) l.bytes l.reader l.rest printed)

abbrev pub decreases-loop-rest : goal.decreases-loop-rest
decreases-loop-rest g l = length l.rest
