-- Each page passed over so far was all zero.
use Rattle.std.proofs.Common.{◌≡◌, ◌-◌, ◌≤◌}
use Rattle.full_text.specs.Full.{page_at}
use Rattle.full_text.specs.UsedPages.{used_pages}
use Rattle.full_text.proofs.found.next_used.Given as goal

abbrev pub invariant-loop-page : goal.invariant-loop-page
invariant-loop-page l = record {
  first : l.from ≤ l.page;
  last : l.page ≤ l.to;
  same : used_pages (page_at l.machine.settled l.kept) l.page ≡ used_pages (page_at l.machine.settled l.kept) l.from;
}

abbrev pub decreases-loop-page : goal.decreases-loop-page
decreases-loop-page l = l.to - l.page
