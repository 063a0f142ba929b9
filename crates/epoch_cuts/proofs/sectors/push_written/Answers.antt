-- Each listed sector is one of the disk's.
use Rattle.std.proofs.Common.{arith}
use Rattle.guest_rules.specs.Guest.{sector_count}
use Rattle.epoch_snapshot.specs.laws.Sectors.{Rises-at}
use Rattle.epoch_cuts.proofs.sectors.push_written.Goals as goal

pub record-requires : goal.record-requires
record-requires c =
    let l = c.dirty_sectors-sector-items.result.now in
    let below = Rises-at 0 (sector_count c.args.machine.now.guest.sectors) l c.loop-sector.sector-index
    c.dirty_sectors-sector-items.ensures.rises (omega arith) in
    omega (arith, below)
