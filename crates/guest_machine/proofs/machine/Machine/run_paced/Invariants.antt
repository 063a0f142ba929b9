use Rattle.std.proofs.Common.{◌≡◌, ◌-◌, ◌≤◌}
use Rattle.guest_rules.specs.Flags.{KeepsFlags}
use Rattle.guest_machine.proofs.PaceLemmas.{SoFar}
use Rattle.guest_rules.specs.laws.Runs.{IsRun}
use Rattle.guest_machine.proofs.machine.Machine.run_paced.Given as goal

abbrev pub invariant-loop-made : goal.invariant-loop-made
invariant-loop-made g l = record {
  most : l.made ≤ l.count;
  run : IsRun l.made l.fn.self l.self;
  flags : KeepsFlags l.fn.self.written l.self.written;
  unchanged : l.made ≡ 0 → l.self ≡ l.fn.self;
  asked : SoFar g.P.Pace.answers g.P.Pace.STRETCH l.count l.made l.self.outbox l.fn.pace l.pace;
}

abbrev pub decreases-loop-made : goal.decreases-loop-made
decreases-loop-made g l = l.count - l.made
