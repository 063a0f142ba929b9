-- The list ends with the named ones among the blocks so far, and the bits that are left are those from the next block on.
use Rattle.std.proofs.Common.{◌≡◌, ◌-◌, ◌/◌, ◌^◌, ◌≤◌, ◌++◌, map, vec_capacity}
use Rattle.epoch_snapshot.specs.Blocks.{block_in, named_below, xored}
use Rattle.epoch_cuts.proofs.memory.push_page_blocks.Given as goal

abbrev pub invariant-loop-rest : goal.invariant-loop-rest
invariant-loop-rest l = record {
  items : l.list.items ≡ l.fn.list.items ++ map (λ i. xored (block_in l.old i) (block_in l.new i)) (named_below l.mask l.next);
  capacity : vec_capacity l.list ≡ vec_capacity l.fn.list;
  most : l.next ≤ 64;
  rest : l.rest ≡ l.mask / 2 ^ l.next;
}

abbrev pub decreases-loop-rest : goal.decreases-loop-rest
decreases-loop-rest l = 64 - l.next
