-- The frames from this one on are to arrive.
use Rattle.std.proofs.Common.{◌≡◌, drop}
use Rattle.hypervisor.specs.Runs.{after_arrivals, frames_of}
use Rattle.hypervisor.proofs.runner.take_in.Given as goal

abbrev pub invariant-loop-given : goal.invariant-loop-given
invariant-loop-given l = record {
  guest : after_arrivals l.machine.guest (frames_of (drop l.given-index l.held)) ≡ after_arrivals l.fn.machine.guest (frames_of l.held);
  outbox : l.machine.outbox ≡ l.fn.machine.outbox;
  dirty : l.machine.dirty ≡ l.fn.machine.dirty;
  settled : l.machine.settled ≡ l.fn.machine.settled;
}
