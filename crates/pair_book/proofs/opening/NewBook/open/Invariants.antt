-- So many clients had a number after so many iterations, or more; nobody has one that is no client's.
use Rattle.std.proofs.Common.{◌≡◌, ◌+◌, ◌≤◌, length}
use Rattle.growing_history.specs.LogState.{line_seat, client_seat}
use Rattle.pair_book.proofs.opening.NewBook.open.Given as goal

abbrev pub invariant-loop : goal.invariant-loop
invariant-loop g l = record {
  same : l.self ≡ record l.fn.self { enrolled = l.self.enrolled };
  given : line_seat + l.counter ≤ l.self.enrolled;
  most : l.self.enrolled ≤ client_seat (length l.fn.self.ports.boxes);
}
