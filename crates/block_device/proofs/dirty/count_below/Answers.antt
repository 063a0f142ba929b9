use Rattle.std.proofs.{Common.{◌≡◌, true, false, nat_lt, rules}, lemmas.List.Sorted.{IsPartitionedBy-ltb, IsPartitionPoint-from_clause}}
use Rattle.std.specs.List.Sorted.{IsPartitionPoint}
use Rattle.block_device.proofs.Rising.{parted_below, parted_above}
use Rattle.block_device.proofs.dirty.count_below.Goals as goal

point : (c : goal.After-partition_point) → IsPartitionPoint (λ y. nat_lt y c.args.sector ≡ true) (λ y. nat_lt y c.args.sector ≡ false)
    c.args.sectors.now c.partition_point.result
point c =
    let parted = IsPartitionedBy-ltb (λ x. x) _ c.args.sector c.requires in
    IsPartitionPoint-from_clause (λ y. nat_lt y c.args.sector) _ _ c.partition_point.ensures.partitioned parted (λ a r q k. search rules)

pub returns-clause-below : goal.returns-clause-below
returns-clause-below c = let p = point c in parted_below c.args.sectors.now c.partition_point.result c.args.sector
    c.partition_point.ensures.bound p.0 p.1

pub returns-clause-above : goal.returns-clause-above
returns-clause-above c = let p = point c in parted_above c.args.sectors.now c.partition_point.result c.args.sector
    c.partition_point.ensures.bound p.0 p.1
