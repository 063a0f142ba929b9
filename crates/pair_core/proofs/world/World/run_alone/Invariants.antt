use Rattle.std.proofs.Common.{◌≡◌, ◌≤◌, ◌-◌, true}
use Rattle.pair_record.specs.Modes.{is_alone}
use Rattle.pair_core.specs.{Replication.KeepsBackup, Runs.steps_outcome}
use Rattle.pair_record.specs.declared.event.Reply.TheVariants as replies
use Rattle.pair_core.proofs.world.World.run_alone.Given as goal

abbrev pub invariant-loop-made : goal.invariant-loop-made
invariant-loop-made l = record {
  most : l.made ≤ l.count;
  alone : is_alone l.self.protocol.state.mode ≡ true;
  start : l.self.start ≡ l.initial.self.start;
  lines : l.self.protocol.lines ≡ l.initial.self.protocol.lines;
  backup : KeepsBackup l.initial.self.nodes l.self.nodes;
  answered : (replies.Steps l.self.nodes.live.guest.steps, l.self.protocol.state)
      ≡ steps_outcome l.initial.self.start l.initial.self.protocol.state l.made;
  none : l.made ≡ 0 → l.self ≡ l.initial.self;
}

abbrev pub decreases-loop-made : goal.decreases-loop-made
decreases-loop-made l = l.count - l.made
