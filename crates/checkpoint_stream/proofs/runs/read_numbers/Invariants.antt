use Rattle.std.proofs.Common.{◌≡◌, ◌≤◌, ◌-◌, length, take}
use Rattle.checkpoint_stream.specs.{Readings.Reading, Taken.{Takes, numbered}}
use Rattle.checkpoint_stream.proofs.runs.read_numbers.Given as goal

abbrev pub invariant-loop-known : goal.invariant-loop-known
invariant-loop-known l = record {
  inside : l.at ≤ length l.rest;
  known : l.known ≤ 80;
  long : length l.head ≡ 80;
  read : (r : Reading) → Takes (numbered r l.shape l.initial.head l.fn.start) (take l.at l.rest)
      (numbered r l.shape l.head (record { known = l.known; before = l.before; offset = l.offset }));
}

abbrev pub decreases-loop-known : goal.decreases-loop-known
decreases-loop-known l = 80 - l.known
