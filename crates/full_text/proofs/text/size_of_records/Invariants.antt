-- The size of the records so far.
use Rattle.std.proofs.Common.{◌≡◌, ◌≤◌, ◌*◌, take}
use Rattle.full_text.specs.Full.{most_record, records_size}
use Rattle.full_text.proofs.text.size_of_records.Given as goal

abbrev pub invariant-loop-page : goal.invariant-loop-page
invariant-loop-page l = record {
  value : l.size ≡ records_size (take l.page-index l.pages);
  most : l.size ≤ most_record * l.page-index;
}
