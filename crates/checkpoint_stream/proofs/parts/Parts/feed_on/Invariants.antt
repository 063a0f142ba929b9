use Rattle.std.proofs.Common.{◌≤◌, ◌-◌, length, take}
use Rattle.checkpoint_stream.specs.Taken.{Takes, Extends}
use Rattle.checkpoint_stream.proofs.parts.Parts.feed_on.Given as goal

abbrev pub invariant-loop-at : goal.invariant-loop-at
invariant-loop-at l = record {
  inside : l.at ≤ length l.piece;
  read : Takes l.fn.self (take l.at l.piece) l.self;
  extends : Extends l.fn.self l.self;
}

abbrev pub decreases-loop-at : goal.decreases-loop-at
decreases-loop-at l = length l.piece - l.at
