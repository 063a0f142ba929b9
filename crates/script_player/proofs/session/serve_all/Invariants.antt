-- the lines that have come were answered
use Rattle.script_player.specs.Session.{IsReply}
use Rattle.script_player.proofs.SessionLemmas.{HasServed}
use Rattle.script_player.proofs.session.serve_all.Given as goal

abbrev pub invariant-loop-line : goal.invariant-loop-line
invariant-loop-line g l = HasServed g.P.LinePlayer.follow (IsReply g.O.Sink.no_memory (g.P.LinePlayer.plays g.O.Sink.no_memory)) l.initial.player (g.S.Source.reading l.initial.input) (g.S.Source.reading l.input)
    (g.O.Sink.written l.initial.out) (g.O.Sink.written l.out) l.player l.line

abbrev pub decreases-loop-line : goal.decreases-loop-line
decreases-loop-line g l = (g.S.Source.reading l.input).reads
