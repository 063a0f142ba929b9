use Rattle.std.proofs.Common.{◌≡◌, ◌-◌, length, false}
use Rattle.virtqueue.specs.Chains.{spelled_from}
use Rattle.virtqueue.proofs.Walk.{behind}
use Rattle.virtqueue.proofs.rings.Queue.parts.Given as goal

abbrev pub invariant-loop-done : goal.invariant-loop-done
invariant-loop-done g l = record {
  count : length l.parts.items ≡ l._done;
  same : behind l.parts.items (spelled_from l.self (g.R.GuestRam.bytes l.ram) (l.self.num - l._done) l.after l.index)
      ≡ spelled_from l.self (g.R.GuestRam.bytes l.ram) l.self.num false l.head;
}
