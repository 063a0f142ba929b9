-- the first lines were answered, and what is left of the piece goes on from there
use Rattle.script_player.specs.Session.{IsReply}
use Rattle.std.proofs.Common.{ℕ, List, ◌++◌, length}
use Rattle.script_player.specs.internal.Serving.{HasAnswered}
use Rattle.script_player.proofs.SessionLemmas.{IsUnderWay}
use Rattle.script_player.proofs.session.feed.Given as goal

abbrev pub invariant-loop-left : goal.invariant-loop-left
invariant-loop-left g l = (first : g.row.P.Denot) (given : List ℕ) (printed : List ℕ)
    → HasAnswered g.P.LinePlayer.follow (IsReply g.O.Sink.no_memory (g.P.LinePlayer.plays g.O.Sink.no_memory)) first given printed
    l.initial.player l.initial.line
    → IsUnderWay g.P.LinePlayer.follow (IsReply g.O.Sink.no_memory (g.P.LinePlayer.plays g.O.Sink.no_memory)) first (given ++ l.bytes) printed
    (g.O.Sink.written l.initial.out) (g.O.Sink.written l.out) l.player l.line l.left

abbrev pub decreases-loop-left : goal.decreases-loop-left
decreases-loop-left g l = length l.left
