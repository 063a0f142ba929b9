-- The text ends with the records of the sectors so far that aren't all zero.
use Rattle.std.proofs.Common.{◌≡◌, ◌≤◌, ◌+◌, ◌*◌, ◌++◌, length, vec_capacity}
use Rattle.epoch_snapshot.specs.Cuts.{changed_sectors, used_sectors}
use Rattle.checkpoint_stream.specs.Text.{joined, sector_units}
use Rattle.full_text.proofs.tail.put_used.Given as goal

abbrev pub invariant-loop-sector : goal.invariant-loop-sector
invariant-loop-sector l = record {
  count : l.used ≡ length (used_sectors l.machine.guest.sectors l.sector);
  few : l.used ≤ l.sector;
  items : l.text.items ≡ l.fn.text.items
      ++ joined (sector_units (changed_sectors l.machine.guest.sectors (used_sectors l.machine.guest.sectors l.sector)));
  size : length l.text.items ≡ length l.fn.text.items + 516 * l.used;
  room : vec_capacity l.fn.text ≤ vec_capacity l.text;
}
