use Rattle.std.proofs.{Common.{ap, arith}, lemmas.List.drop_more}
use Rattle.pair_history.specs.internal.NewFrames.{new_for}
use Rattle.pair_history.proofs.landings.count_new.Goals as goal

pub count_if_new-count-requires : goal.count_if_new-count-requires
count_if_new-count-requires c = c.requires.known c.loop-client.client-index 0 (omega arith)

pub loop-client-preserved : goal.loop-client-preserved
loop-client-preserved c =
    let more = ap (λ cs. new_for c.args.ports.now cs c.args.number)
    (drop_more c.args.clients.now c.loop-client.client-index 0 (omega arith)) in
    let one = c.count_if_new-count.ensures in
    let v = c.loop-client.invariant in
    record { few = omega arith; counted = omega arith }
