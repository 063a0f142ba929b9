use Rattle.std.proofs.Common.{◌+◌, ◌++◌, ◌∷◌, [], length, ap, ◌∙◌, append_assoc, arith, length-append}
use Rattle.std.{proofs.lemmas.List.FromFn.length-range_with_len, specs.List.range_with_len}
use Rattle.block_device.proofs.Rising.{range_more}
use Rattle.block_device.proofs.dirty.push_range.Goals as goal

pub push_reserved-requires : goal.push_reserved-requires
push_reserved-requires c =
    omega (
      arith,
      ap length c.loop-done.invariant.items,
      length-append c.args.list.now.items (range_with_len c.args.first c.loop-done.done),
      length-range_with_len c.args.first c.loop-done.done,
      c.loop-done.invariant.capacity,
    )

pub loop-done-preserved : goal.loop-done-preserved
loop-done-preserved c = record {
  items = c.push_reserved.ensures.items
      ∙ (ap (λ xs. xs ++ (c.args.first + c.loop-done.done) ∷ []) c.loop-done.invariant.items
      ∙ (append_assoc c.args.list.now.items (range_with_len c.args.first c.loop-done.done) ((c.args.first + c.loop-done.done) ∷ [])
      ∙ ap (λ xs. c.args.list.now.items ++ xs) (range_more c.args.first c.loop-done.done)));
  capacity = c.push_reserved.ensures.capacity ∙ c.loop-done.invariant.capacity;
}
