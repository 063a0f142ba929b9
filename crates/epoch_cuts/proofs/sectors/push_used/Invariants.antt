-- The list holds the used ones among the sectors so far.
use Rattle.std.proofs.Common.{◌≡◌}
use Rattle.epoch_snapshot.specs.Cuts.{changed_sectors, used_sectors}
use Rattle.epoch_cuts.proofs.sectors.push_used.Given as goal

abbrev pub invariant-loop-sector : goal.invariant-loop-sector
invariant-loop-sector l = l.list.items ≡ changed_sectors l.machine.guest.sectors (used_sectors l.machine.guest.sectors l.sector)
