-- No page passed over so far changes over a memory that is all zero.
use Rattle.std.proofs.Common.{◌≡◌, ◌-◌, ◌≤◌, length, replicate}
use Rattle.epoch_snapshot.specs.Cuts.{changed_pages}
use Rattle.epoch_cuts.proofs.memory.next_nonzero.Given as goal

abbrev pub invariant-loop-page : goal.invariant-loop-page
invariant-loop-page l = record {
  first : l.from ≤ l.page;
  last : l.page ≤ l.pages;
  same : changed_pages (replicate (length l.machine.guest.ram) 0) l.machine.guest.ram l.page ≡
      changed_pages (replicate (length l.machine.guest.ram) 0) l.machine.guest.ram l.from;
}

abbrev pub decreases-loop-page : goal.decreases-loop-page
decreases-loop-page l = l.pages - l.page
