use Rattle.script_player.specs.Session.{IsReply}
use Rattle.std.proofs.{Common.{[], ap, sym, ◌++◌, take, arith, refl}, KnownBytes.{Appends-nil, Appends-trans, Consumes-nil, Consumes-trans}}
use Rattle.script_player.specs.{Session.IsServed, SessionLines.{lines_behind, lines_with}, internal.Serving.status_of}
use Rattle.script_player.proofs.SessionLemmas.{read-failed, write-failed, input-ended}
use Rattle.script_player.specs.laws.Options.{failed}
use Rattle.script_player.proofs.session.serve_all.Goals as goal

pub loop-line-init : goal.loop-line-init
loop-line-init g c = record {
  given = [];
  text = [];
  had = Consumes-nil (g.S.Source.reading c.args.input.now).left;
  all = Appends-nil (g.O.Sink.written c.args.out.now).bytes;
  answered = record {
    lines = [];
    begun = [];
    split = λ more. ap (λ d. lines_behind g.P.LinePlayer.follow [] d more) (sym c.new-line.ensures.none_due);
    replies = (refl, refl);
    held = c.new-line.ensures.held;
  };
}

pub returns-in_err-count : goal.returns-in_err-count
returns-in_err-count g c =
    let got = c.in_err-count.ensures.bytes in
    let after = g.S.Source.reading c.read.new.self in
    let out = g.O.Sink.written c.args.out.now in
    failed _ (λ r. IsServed (lines_with g.P.LinePlayer.follow) (IsReply g.O.Sink.no_memory (g.P.LinePlayer.plays g.O.Sink.no_memory)) c.args.player.now (g.S.Source.reading c.args.input.now) after out
    (g.O.Sink.written c.loop-line.out) (status_of r))
    c.from_residual.result c.from_residual.ensures.1 (λ e is. read-failed c.loop-line.invariant after got.0 got.1)

pub returns-in_err-feed : goal.returns-in_err-feed
returns-in_err-feed g c =
    let before = c.loop-line.invariant in
    let got = c.in_ok-count.ensures.bytes in
    let after = g.S.Source.reading c.read.new.self in
    let out = g.O.Sink.written c.args.out.now in
    let out' = g.O.Sink.written c.feed.new.out in
    failed _ (λ r. IsServed (lines_with g.P.LinePlayer.follow) (IsReply g.O.Sink.no_memory (g.P.LinePlayer.plays g.O.Sink.no_memory)) c.args.player.now (g.S.Source.reading c.args.input.now) after out out' (status_of r))
    c.from_residual-in_err-feed.result c.from_residual-in_err-feed.ensures.1
    (λ e is. write-failed before after (take c.in_ok-count.count c.read.new.buffer) out' got.0
    (c.in_err-feed.ensures c.args.player.now before.given before.text before.answered))

pub loop-line-preserved : goal.loop-line-preserved
loop-line-preserved g c =
    let before = c.loop-line.invariant in
    let got = c.in_ok-count.ensures.bytes in
    let fed = c.in_ok-feed.ensures c.args.player.now before.given before.text before.answered in
    record {
      given = before.given ++ take c.in_ok-count.count c.read.new.buffer;
      text = before.text ++ fed.0;
      had = Consumes-trans _ _ _ before.given (take c.in_ok-count.count c.read.new.buffer) before.had got.0;
      all = Appends-trans _ _ _ before.text fed.0 before.all fed.1;
      answered = fed.2;
    }

pub returns-then-count-eq0 : goal.returns-then-count-eq0
returns-then-count-eq0 g c =
    let got = c.in_ok-count.ensures.bytes in
    input-ended c.loop-line.invariant (g.S.Source.reading c.read.new.self) (rw c.if-count-eq0.true at got.0)
    (got.1 c.if-count-eq0.true (omega arith)) got.2 c.answer.new.player (g.O.Sink.written c.answer.new.out) c.answer.result
    c.answer.ensures.answers
