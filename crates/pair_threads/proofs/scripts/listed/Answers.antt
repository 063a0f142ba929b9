use Rattle.std.proofs.Common.{length, map, ap, arith}
use Rattle.std.specs.Vec.Iter.{into_iter_items}
use Rattle.pair_threads.specs.internal.Scripts.{answered_of, client_of}
use Rattle.pair_threads.proofs.ListLemmas.{listed-on}
use Rattle.pair_threads.proofs.scripts.listed.Goals as goal

pub loop-script-preserved : goal.loop-script-preserved
loop-script-preserved g c =
    let all = into_iter_items c.into_iter-script-iterator.result in
    let left = into_iter_items c.loop-script.script-iterator in
    let rest = into_iter_items c.next.new.self in
    let before = c.loop-script.lists in
    let after = c.list.new.lists in
    let is = c.in-Some.ensures.steps.0 in
    let listed = c.in_ok-list.ensures in
    record {
      answered = listed-on answered_of before.answered.items after.answered.items (map answered_of all) left rest c.in-Some.script is
          c.loop-script.invariant.answered listed.answered;
      clients = listed-on client_of before.clients.items after.clients.items (map client_of all) left rest c.in-Some.script is
          c.loop-script.invariant.clients listed.clients;
      count = omega (arith, c.loop-script.invariant.count, c.in-Some.ensures.steps.1, ap length is);
    }
