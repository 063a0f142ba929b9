-- The list holds the written sectors so far.
use Rattle.std.proofs.Common.{◌≡◌, take, vec_capacity}
use Rattle.epoch_snapshot.specs.Cuts.{changed_sectors}
use Rattle.epoch_cuts.proofs.sectors.push_written.Given as goal

abbrev pub invariant-loop-sector : goal.invariant-loop-sector
invariant-loop-sector l =
    (l.list.items ≡ changed_sectors l.machine.guest.sectors (take l.sector-index l.machine.dirty))
    × (vec_capacity l.list ≡ vec_capacity l.fn.list)
