use Rattle.script_player.proofs.ScriptLemmas.{put-shown}
use Rattle.script_player.proofs.session.answer.Goals as goal

pub returns-clause-answers : goal.returns-clause-answers
returns-clause-answers g c =
    let o = g.O.Sink.written c.args.out.now in
    let m = g.O.Sink.written c.reply-replied.new.out in
    let o' = g.O.Sink.written c.show.new.self in
    let reply = c.in_ok-replied.ensures in (
      reply.0,
      put-shown o m o' reply.0 reply.1.0.all c.show.result reply.1.1 c.show.ensures,
      λ text held. reply.2 text (rw (c.as_slice.ensures.value, c.replace-fate.ensures.value) held),
    )
