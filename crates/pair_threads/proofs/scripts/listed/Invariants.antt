-- What is told of the scripts so far is listed; the rest is still to come.
use Rattle.std.proofs.Common.{◌≡◌, ◌++◌, map, length}
use Rattle.std.specs.Vec.Iter.{into_iter_items, into_iter_len}
use Rattle.pair_threads.specs.internal.Scripts.{answered_of, client_of}
use Rattle.pair_threads.proofs.scripts.listed.Given as goal

abbrev pub invariant-loop-script : goal.invariant-loop-script
invariant-loop-script g l = record {
  answered : l.lists.answered.items ++ map answered_of (into_iter_items l.script-iterator) ≡ map answered_of (into_iter_items l.initial.script-iterator);
  clients : l.lists.clients.items ++ map client_of (into_iter_items l.script-iterator) ≡ map client_of (into_iter_items l.initial.script-iterator);
  count : into_iter_len l.script-iterator ≡ length (into_iter_items l.script-iterator);
}
