use Rattle.std.proofs.Common.{◌≡◌, ◌≤◌, length, drop}
use Rattle.virtqueue.specs.Parts.{writable_places, put_at}
use Rattle.virtqueue.proofs.rings.Queue.scatter.Given as goal

abbrev pub invariant-loop-part : goal.invariant-loop-part
invariant-loop-part g l = record {
  within : l.done ≤ length l.from;
  size : length (g.R.GuestRam.bytes l.ram) ≡ length (g.R.GuestRam.bytes l.initial.ram);
  fixed : g.R.GuestRam.fixed l.ram ≡ g.R.GuestRam.fixed l.initial.ram;
  same : put_at (g.R.GuestRam.bytes l.ram) (drop l.skip (writable_places (drop l.part-index l.parts))) (drop l.done l.from)
      ≡ put_at (g.R.GuestRam.bytes l.initial.ram) (drop l.at (writable_places l.parts)) l.from;
}
