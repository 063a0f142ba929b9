use Rattle.std.proofs.Common.{◌≡◌, ℕ, ◌+◌, ◌≤◌, ◌++◌, List, ap, ◌∙◌, sym, subst, arith, vec_capacity, take, drop, filter, nat_lt, nat_le}
use Rattle.std.proofs.{Common.{length, length-append, length-take-le}, lemmas.List.FromFn.length-range_with_len}
use Rattle.std.specs.List.{range_with_len, Sorted.IsNonDecreasing}
use Rattle.block_device.{specs.Dirty.Rises, proofs.Rising.{Parted, rises_nondecreasing, from_before_to, room_for_range, moved_in}}
use Rattle.block_device.proofs.dirty.put_in_place.Goals as goal

-- what both searches found, of the list itself
parted : (xs once twice : List ℕ) (first n end from to : ℕ) → once ≡ xs → twice ≡ xs → Rises 0 end xs → first + n ≤ end →
    take from once ≡ filter (λ i. nat_lt i first) once → take to twice ≡ filter (λ i. nat_lt i (first + n)) twice →
    drop to twice ≡ filter (λ i. nat_le (first + n) i) twice → from ≤ length once → to ≤ length twice → Parted xs first n end from to
parted xs once twice first n end from to e f rises room below_first below_last above_last from_within to_within = record {
  rises = rises;
  room = room;
  below_first = subst (λ (ys : List ℕ). take from ys ≡ filter (λ i. nat_lt i first) ys) e below_first;
  below_last = subst (λ (ys : List ℕ). take to ys ≡ filter (λ i. nat_lt i (first + n)) ys) f below_last;
  above_last = subst (λ (ys : List ℕ). drop to ys ≡ filter (λ i. nat_le (first + n) i) ys) f above_last;
  from_within = subst (λ (ys : List ℕ). from ≤ length ys) e from_within;
  to_within = subst (λ (ys : List ℕ). to ≤ length ys) f to_within;
}

pub count_below-from-requires : goal.count_below-from-requires
count_below-from-requires c =
    subst IsNonDecreasing (sym c.as_slice.ensures.value)
    (rises_nondecreasing 0 (vec_capacity c.args.list.now) c.args.list.now.items c.requires.rises)

pub count_below-to-requires : goal.count_below-to-requires
count_below-to-requires c =
    subst IsNonDecreasing (sym c.as_slice-2.ensures.value)
    (rises_nondecreasing 0 (vec_capacity c.args.list.now) c.args.list.now.items c.requires.rises)

pub remove_places-requires-clause-ordered : goal.remove_places-requires-clause-ordered
remove_places-requires-clause-ordered c =
    let p = parted _ _ _ _ _ _ _ _ c.as_slice.ensures.value c.as_slice-2.ensures.value c.requires.rises c.requires.room
    c.count_below-from.ensures.below c.count_below-to.ensures.below c.count_below-to.ensures.above c.count_below-from.ensures.within
    c.count_below-to.ensures.within in
    from_before_to _ _ _ _ _ _ p

pub push_range-requires-clause-room : goal.push_range-requires-clause-room
push_range-requires-clause-room c =
    let p = parted _ _ _ _ _ _ _ _ c.as_slice.ensures.value c.as_slice-2.ensures.value c.requires.rises c.requires.room
    c.count_below-from.ensures.below c.count_below-to.ensures.below c.count_below-to.ensures.above c.count_below-from.ensures.within
    c.count_below-to.ensures.within in
    let room = room_for_range _ _ _ _ _ _ p in omega (arith, ap length c.remove_places.ensures.items, c.remove_places.ensures.capacity)

pub move_last-requires : goal.move_last-requires
move_last-requires c =
    let p = parted _ _ _ _ _ _ _ _ c.as_slice.ensures.value c.as_slice-2.ensures.value c.requires.rises c.requires.room
    c.count_below-from.ensures.below c.count_below-to.ensures.below c.count_below-to.ensures.above c.count_below-from.ensures.within
    c.count_below-to.ensures.within in
    omega (
      arith,
      ap length c.push_range.ensures.items,
      ap length c.remove_places.ensures.items,
      p.from_within,
      length-append c.remove_places.new.list.items (range_with_len c.args.first c.args.count),
      length-range_with_len c.args.first c.args.count,
      length-append (take c.count_below-from.result c.args.list.now.items)
          (drop c.count_below-to.result c.args.list.now.items),
      length-take-le c.count_below-from.result c.args.list.now.items
          p.from_within,
    )

pub returns-clause-items : goal.returns-clause-items
returns-clause-items c =
    let p = parted _ _ _ _ _ _ _ _ c.as_slice.ensures.value c.as_slice-2.ensures.value c.requires.rises c.requires.room
    c.count_below-from.ensures.below c.count_below-to.ensures.below c.count_below-to.ensures.above c.count_below-from.ensures.within
    c.count_below-to.ensures.within in
    let list = c.push_range.ensures.items ∙ ap (λ ys. ys ++ range_with_len c.args.first c.args.count) c.remove_places.ensures.items in
    c.move_last.ensures.items ∙ moved_in c.args.list.now.items c.args.first c.args.count (vec_capacity c.args.list.now)
    c.count_below-from.result c.count_below-to.result p c.push_range.new.list.items list
