-- So many clients have looked, the others are as before, and the book is.
use Rattle.std.proofs.Common.{◌≡◌}
use Rattle.hypervisor.proofs.LookLaws.{SomeSee}
use Rattle.hypervisor.proofs.looking.look.Given as goal

abbrev pub invariant-loop-place : goal.invariant-loop-place
invariant-loop-place g l = record {
  same : l.book ≡ l.initial.book;
  seen : SomeSee g.P.Pair.start l.initial.book.steps l.place l.initial.clients.items l.clients.items;
}
