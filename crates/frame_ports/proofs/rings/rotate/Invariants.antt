-- The first items, as many as iterations so far, have gone behind the others.
use Rattle.std.proofs.Common.{◌≡◌, ◌++◌, take, drop}
use Rattle.circular_buffer.specs.Buffer.{buffer}
use Rattle.frame_ports.proofs.rings.rotate.Given as goal

abbrev pub invariant-loop : goal.invariant-loop
invariant-loop g l = l.ring ≡ buffer (drop l.counter l.fn.ring.items ++ take l.counter l.fn.ring.items) l.fn.ring.capacity
