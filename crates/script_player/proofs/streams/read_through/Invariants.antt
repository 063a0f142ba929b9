-- what is left to read stays
use Rattle.std.specs.Io.KnownBytes.{Keeps}
use Rattle.script_player.proofs.streams.read_through.Given as goal

abbrev pub invariant-loop : goal.invariant-loop
invariant-loop g l = Keeps (g.R.Read.remaining l.initial.input) (g.R.Read.remaining l.input)
