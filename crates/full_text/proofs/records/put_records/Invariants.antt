-- What is made, and the records of the pages that are left, are as much as at the start.
use Rattle.std.proofs.Common.{◌≡◌, ◌+◌, ◌-◌, ◌<◌, ◌≤◌, ◌++◌, drop, length, vec_capacity}
use Rattle.full_text.specs.Full.{most_record, page_at, page_records, records_size}
use Rattle.full_text.proofs.records.put_records.Given as goal

abbrev pub invariant-loop-next : goal.invariant-loop-next
invariant-loop-next l = record {
  last : l.next ≤ length l.pages;
  items : l.text.items ++ page_records (page_at l.machine.settled l.kept) (drop l.next l.pages) ≡ l.fn.text.items ++ page_records (page_at l.machine.settled l.kept) l.pages;
  size : length l.text.items + records_size (drop l.next l.pages) ≡ length l.fn.text.items + records_size l.pages;
  grows : length l.fn.text.items ≤ length l.text.items;
  no_further : length l.fn.text.items < length l.text.items → length l.text.items < l.from + l.count + most_record;
  room : vec_capacity l.fn.text ≤ vec_capacity l.text;
}

abbrev pub decreases-loop-next : goal.decreases-loop-next
decreases-loop-next l = length l.pages - l.next
