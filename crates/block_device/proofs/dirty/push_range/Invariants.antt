use Rattle.std.{proofs.Common.{◌≡◌, ◌++◌, vec_capacity}, specs.List.range_with_len}
use Rattle.block_device.proofs.dirty.push_range.Given as goal

abbrev pub invariant-loop-done : goal.invariant-loop-done
invariant-loop-done l = record {
  items : l.list.items ≡ l.initial.list.items ++ range_with_len l.first l.done;
  capacity : vec_capacity l.list ≡ vec_capacity l.initial.list;
}
