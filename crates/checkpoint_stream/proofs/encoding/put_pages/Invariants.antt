use Rattle.std.proofs.Common.{◌≡◌, ◌≤◌, ◌++◌, All, drop, take, length}
use Rattle.epoch_snapshot.specs.Checkpoints.{block_count}
use Rattle.checkpoint_stream.{specs.Text.{joined, page_units}, proofs.RecordsRead.FitsMask}
use Rattle.checkpoint_stream.proofs.encoding.put_pages.Given as goal

abbrev pub invariant-loop-page : goal.invariant-loop-page
invariant-loop-page l = record {
  put : l.out.items ++ joined (page_units (drop l.page-index l.pages) l.rest) ≡ l.initial.out.items
      ++ joined (page_units l.pages l.initial.rest);
  enough : block_count (drop l.page-index l.pages) ≤ length l.rest;
  width : All FitsMask (take l.page-index l.pages);
}
