-- The lists hold the changed ones among the pages so far, and their blocks.
use Rattle.std.proofs.Common.{◌≡◌, ◌-◌, ◌≤◌}
use Rattle.epoch_cuts.specs.Over.{old_ram}
use Rattle.epoch_snapshot.specs.{Cuts.{changed_pages, changed_blocks}}
use Rattle.epoch_cuts.proofs.memory.push_pages.Given as goal

abbrev pub invariant-loop-page : goal.invariant-loop-page
invariant-loop-page l = record {
  pages : l.pages.items ≡ changed_pages (old_ram l.over l.machine) l.machine.guest.ram l.page;
  blocks : l.blocks.items ≡ changed_blocks (old_ram l.over l.machine) l.machine.guest.ram
      (changed_pages (old_ram l.over l.machine) l.machine.guest.ram l.page);
  last : l.page ≤ l.count;
}

abbrev pub decreases-loop-page : goal.decreases-loop-page
decreases-loop-page l = l.count - l.page
