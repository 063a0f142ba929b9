use Rattle.script_player.specs.Session.{IsReply}
use Rattle.std.proofs.Common.{◌≡◌, [], arith, ◌∙◌}
use Rattle.std.proofs.lemmas.{List.{nil_from_length, take_rest}, Bool.Decides.nat_tests}
use Rattle.script_player.{specs.internal.Serving.IsFed, proofs.SessionLemmas.{under-way, all-answered, goes-on, line-ends, cut-in-it}}
use Rattle.script_player.specs.laws.Options.{failed}
use Rattle.script_player.proofs.session.feed.Goals as goal
use Rattle.script_player.proofs.session.feed.Goals.{then-has_ended+in_ok-answer, else-has_ended}

pub loop-left-init : goal.loop-left-init
loop-left-init g c = λ first given printed h.
    under-way g.P.LinePlayer.follow (IsReply g.O.Sink.no_memory (g.P.LinePlayer.plays g.O.Sink.no_memory)) first c.args.bytes.now
    (g.O.Sink.written c.args.out.now) h

pub returns-in_err-answer : goal.returns-in_err-answer
returns-in_err-answer g c =
    let a = c.in_err-answer.ensures.answers in
    let o = g.O.Sink.written c.args.out.now in
    let o' = g.O.Sink.written c.answer.new.out in
    failed _ (λ r. IsFed g.P.LinePlayer.follow (IsReply g.O.Sink.no_memory (g.P.LinePlayer.plays g.O.Sink.no_memory)) c.args.player.now
    c.args.line.now c.args.bytes.now c.answer.new.player c.answer.new.line o o' r) c.from_residual.result c.from_residual.ensures.1
    (λ f is first given printed h.
    let u = c.loop-left.invariant first given printed h in
    let t = rw c.if-has_ended.true at (c.take-count.ensures.taken u.begun u.held) in
    cut-in-it g.P.LinePlayer.follow (IsReply g.O.Sink.no_memory (g.P.LinePlayer.plays g.O.Sink.no_memory)) first u t
    (a.2 t.line t.held.kept) o' a.1)

pub loop-left-preserved : goal.loop-left-preserved
loop-left-preserved g c = λ first given printed h.
    let answers = IsReply g.O.Sink.no_memory (g.P.LinePlayer.plays g.O.Sink.no_memory) in
    let u = c.loop-left.invariant first given printed h in
    let t = c.take-count.ensures.taken u.begun u.held in
    rw (take_rest c.loop-left.left.now c.take-count.result.0) (elim c.if-has_ended.branch [
      | then-has_ended+in_ok-answer w ↦
          let ended = rw w.if-has_ended.true at t in
          let a = w.in_ok-answer.ensures in
          rw (w.player-is, w.line-is, w.out-is) (line-ends g.P.LinePlayer.follow answers first u ended
          (a.answers.2 ended.line ended.held.kept) w.answer.new.line (g.O.Sink.written w.answer.new.out) a.begins
          (a.none_due ∙ c.take-count.ensures.none_due w.if-has_ended.true) a.answers.1.0.all)
      | else-has_ended w ↦
          rw (w.player-is, w.line-is, w.out-is) (goes-on g.P.LinePlayer.follow answers first u (rw w.if-has_ended.false at t))
    ])

pub returns : goal.returns
returns g c = λ first given printed h.
    let none : c.loop-left.left.now ≡ [] = nil_from_length c.loop-left.left.now (grind (arith, nat_tests, c.is_empty.ensures, c.loop-left-test.false)) in
    all-answered g.P.LinePlayer.follow (IsReply g.O.Sink.no_memory (g.P.LinePlayer.plays g.O.Sink.no_memory)) first
    (rw none at (c.loop-left.invariant first given printed h))
