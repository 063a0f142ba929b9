-- One sector more.
use Rattle.std.proofs.Common.{[], arith}
use Rattle.guest_rules.specs.Guest.{sector_count}
use Rattle.epoch_snapshot.specs.declared.changes.SectorChange.{SectorChange}
use Rattle.backup_image.proofs.{RisingLemmas.rising-below, PutLemmas.{sectors-begin, sectors-put, sectors-done}}
use Rattle.backup_image.proofs.apply.put_sectors.Goals as goal

none : SectorChange
none = record { sector = 0; bytes = [] }

pub loop-change-init : goal.loop-change-init
loop-change-init c = sectors-begin c.args.machine.now c.args.sectors.now

pub put_sector-requires : goal.put_sector-requires
unfolding none
put_sector-requires c =
    let below = rising-below (λ (s : SectorChange). s.sector) 0 (sector_count c.args.machine.now.guest.sectors) c.args.sectors.now
    c.loop-change.change-index none
    c.requires (omega arith) in
    omega (arith, below, c.loop-change.invariant.size)

pub loop-change-preserved : goal.loop-change-preserved
unfolding none
loop-change-preserved c =
    sectors-put c.args.machine.now c.loop-change.machine c.put_sector.new.machine c.args.sectors.now c.loop-change.change-index none
    c.loop-change.invariant (omega arith)
    c.put_sector.ensures.guest c.put_sector.ensures.size c.put_sector.ensures.flags

pub returns-clause-guest : goal.returns-clause-guest
returns-clause-guest c =
    sectors-done c.args.machine.now c.loop-change.machine c.args.sectors.now c.loop-change.change-index c.loop-change.invariant
    (omega arith)
