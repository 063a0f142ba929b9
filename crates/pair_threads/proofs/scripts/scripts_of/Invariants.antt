-- The lines so far have their scripts, and the clients of those that are left sit at their places.
use Rattle.std.proofs.Common.{◌≡◌, length}
use Rattle.std.specs.Vec.Iter.{into_iter_items, into_iter_len}
use Rattle.pair_threads.specs.Lines.{clients_of}
use Rattle.pair_threads.specs.Seats.{AreSeated}
use Rattle.pair_threads.proofs.AnswerLemmas.{HaveScripts}
use Rattle.pair_threads.proofs.scripts.scripts_of.Given as goal

abbrev pub invariant-loop-line : goal.invariant-loop-line
invariant-loop-line g l = record {
  seated : AreSeated l.seats.items (clients_of (into_iter_items l.line-iterator));
  count : into_iter_len l.line-iterator ≡ length (into_iter_items l.line-iterator);
  scripts : HaveScripts (into_iter_items l.initial.line-iterator) (into_iter_items l.line-iterator) l.scripts.items;
}
