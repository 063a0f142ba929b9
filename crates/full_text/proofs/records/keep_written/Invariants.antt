-- The pages so far are the same of what memory has now.
use Rattle.std.proofs.Common.{◌≡◌, ℕ, ◌*◌, ◌-◌, ◌<◌, ◌≤◌, length}
use Rattle.full_text.specs.Full.{IsSameIn, page_at}
use Rattle.full_text.proofs.records.keep_written.Given as goal

abbrev pub invariant-loop-page : goal.invariant-loop-page
invariant-loop-page l = record {
  within : 4096 * l.page ≤ length l.machine.guest.ram;
  settled : (q : ℕ) → page_at l.machine.settled l.kept q ≡ page_at l.machine.settled l.fn.kept q;
  same : (q : ℕ) → q < l.page → IsSameIn l.machine l.kept q;
  room : length l.kept ≡ length l.fn.kept;
}

abbrev pub decreases-loop-page : goal.decreases-loop-page
decreases-loop-page l = l.pages - l.page
