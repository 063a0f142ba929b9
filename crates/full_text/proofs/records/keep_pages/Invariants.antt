-- The pages so far are the same of what memory has now.
use Rattle.std.proofs.Common.{◌≡◌, ℕ, All, length, take}
use Rattle.full_text.specs.Full.{IsSameIn, page_at}
use Rattle.full_text.proofs.records.keep_pages.Given as goal

abbrev pub invariant-loop-change : goal.invariant-loop-change
invariant-loop-change l = record {
  settled : (q : ℕ) → page_at l.machine.settled l.kept q ≡ page_at l.machine.settled l.fn.kept q;
  same : All (λ p. IsSameIn l.machine l.kept p.page) (take l.change-index l.pages);
  room : length l.kept ≡ length l.fn.kept;
}
