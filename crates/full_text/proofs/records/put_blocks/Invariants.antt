-- The text ends with the named ones among the blocks so far.
use Rattle.std.proofs.Common.{◌≡◌, ◌≤◌, ◌++◌, map, vec_capacity}
use Rattle.epoch_snapshot.specs.Blocks.{block_in, named_below}
use Rattle.checkpoint_stream.specs.Text.{joined}
use Rattle.full_text.proofs.records.put_blocks.Given as goal

abbrev pub invariant-loop-number : goal.invariant-loop-number
invariant-loop-number l = record {
  items : l.text.items ≡ l.fn.text.items ++ joined (map (λ i. block_in l.page i) (named_below l.mask l.number));
  room : vec_capacity l.fn.text ≤ vec_capacity l.text;
}
