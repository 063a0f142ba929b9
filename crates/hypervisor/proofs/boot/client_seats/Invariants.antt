-- So many clients have their seats after so many iterations.
use Rattle.std.proofs.Common.{◌≡◌, ◌+◌}
use Rattle.growing_history.specs.LogState.{line_seat}
use Rattle.pair_book.specs.Books.{start_book}
use Rattle.hypervisor.specs.Opening.{new_clients}
use Rattle.hypervisor.proofs.boot.client_seats.Given as goal

abbrev pub invariant-loop : goal.invariant-loop
invariant-loop g l = record {
  seats : l.seats.items ≡ new_clients l.counter;
  book : l.book ≡ start_book l.clients (line_seat + l.counter);
}
