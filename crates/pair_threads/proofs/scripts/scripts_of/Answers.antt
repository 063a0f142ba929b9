use Rattle.std.proofs.Common.{length, ap, arith}
use Rattle.std.specs.Vec.Iter.{into_iter_items}
use Rattle.pair_threads.proofs.AnswerLemmas.{seated-on, scripts-on}
use Rattle.pair_threads.proofs.scripts.scripts_of.Goals as goal

pub loop-line-preserved : goal.loop-line-preserved
loop-line-preserved g c =
    let left = into_iter_items c.loop-line.line-iterator in
    let rest = into_iter_items c.next.new.self in
    let line = c.in-Some.line in
    let is = c.in-Some.ensures.steps.0 in
    let added = c.in_ok-add_script.ensures.added in
    record {
      seated = seated-on c.loop-line.seats.items c.add_script.new.seats.items left rest line is c.loop-line.invariant.seated
          c.in_ok-add_script.ensures.seats;
      count = omega (arith, c.loop-line.invariant.count, c.in-Some.ensures.steps.1, ap length is);
      scripts = scripts-on (into_iter_items c.into_iter-line-iterator.result) left rest line c.loop-line.scripts.items
          c.add_script.new.scripts.items added.0 is c.loop-line.invariant.scripts added.1 added.2;
    }
