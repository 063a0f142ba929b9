-- The list holds the pages so far that aren't all zero.
use Rattle.std.proofs.Common.{◌≡◌, ◌≤◌, ◌-◌, length, vec_capacity}
use Rattle.full_text.specs.Full.{page_at}
use Rattle.full_text.specs.UsedPages.{used_pages}
use Rattle.full_text.proofs.found.find_pages.Given as goal

abbrev pub invariant-loop-page : goal.invariant-loop-page
invariant-loop-page l = record {
  within : l.page ≤ l.to;
  few : length l.pages.items ≤ l.page;
  pages : l.pages.items ≡ used_pages (page_at l.machine.settled l.kept) l.page;
  room : vec_capacity l.fn.pages ≤ vec_capacity l.pages;
}

abbrev pub decreases-loop-page : goal.decreases-loop-page
decreases-loop-page l = l.to - l.page

abbrev pub invariant-loop-page-2 : goal.invariant-loop-page-2
invariant-loop-page-2 l = record {
  within : l.page ≤ l.to;
  few : length l.pages.items ≤ l.page;
  pages : l.pages.items ≡ used_pages (page_at l.machine.settled l.kept) l.page;
  room : vec_capacity l.fn.pages ≤ vec_capacity l.pages;
}

abbrev pub decreases-loop-page-2 : goal.decreases-loop-page-2
decreases-loop-page-2 l = l.to - l.page
