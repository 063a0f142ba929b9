use Rattle.std.proofs.Common.{◌+◌, List, sym, subst, arith}
use Rattle.pair_record.specs.declared.event.Reply.{Reply}
use Rattle.pair_threads.proofs.ToldLemmas.{HasMadeSome, none-made, one-more-made}
use Rattle.pair_threads.proofs.scripts.play.Goals as goal

pub loop-action-init : goal.loop-action-init
loop-action-init g c = λ none room. (none-made g.P.Pair.start c.args.actions.now c.args.replies.now.items c.args.client.now none, room)

pub loop-action-preserved : goal.loop-action-preserved
loop-action-preserved g c = λ none room.
    let start = g.P.Pair.start in
    let does = c.args.actions.now in
    let before = c.loop-action.invariant none room in (
      subst (λ (rs : List Reply). HasMadeSome start does (c.loop-action.action-index + 1) rs c.args.client.now c.act-reply.new.client)
          (sym c.in-Ok.ensures.items)
          (one-more-made start does c.loop-action.action-index c.loop-action.replies.items c.args.client.now c.loop-action.client
          c.act-reply.new.client c.action-item.result c.act-reply.result before.0 (omega arith) c.action-item.is c.act-reply.ensures),
      omega (arith, before.1, c.in-Ok.ensures.capacity),
    )
