use Rattle.std.proofs.Common.{◌≡◌, ◌-◌, ◌≤◌, ◌++◌, length, take, drop}
use Rattle.virtqueue.specs.Parts.{readable_bytes}
use Rattle.virtqueue.proofs.rings.Queue.gather.Given as goal

abbrev pub invariant-loop-part : goal.invariant-loop-part
invariant-loop-part g l = record {
  within : l.done ≤ length l.into;
  same : take l.done l.into ++ take (length l.into - l.done)
      (drop l.skip (readable_bytes (g.R.GuestRam.bytes l.ram) (drop l.part-index l.parts)))
      ≡ take (length l.into) (drop l.at (readable_bytes (g.R.GuestRam.bytes l.ram) l.parts));
}
